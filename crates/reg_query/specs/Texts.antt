-- Texts of a reference system in which a search looks.
use Rattle.std.specs.Prelude.{◌⊎◌, ℕ, List, [], Option, Some, None}
use Rattle.std.specs.List.{Any}
use Rattle.crs_names.specs.Nodes.{Part, of_parts}
use Rattle.crs_names.specs.Nodes.Part.{OfEllipsoid, OfDatum, OfEnsemble, OfVerticalDatum, OfVerticalEnsemble, OfMethod}
use Rattle.crs_part.specs.declared.text.Text.{Text}
use Rattle.crs_part.specs.declared.crs.CrsParts.{CrsParts}
use Rattle.crs_part.specs.declared.crs.CrsParts.TheVariants as whole
use Rattle.crs_part.specs.declared.crs.Single.{Single}
use Rattle.crs_part.specs.declared.crs.Single.TheVariants.{Geodetic, Projected, Vertical}
use Rattle.crs_value.specs.Parts.{HasPart}
use Rattle.crs_value.specs.Usages.{HasOne}

abbrev remark_of_single : Single → Option Text
remark_of_single (Geodetic crs) = crs.remark
remark_of_single (Projected crs) = crs.remark
remark_of_single (Vertical crs) = crs.remark

-- the remark of the whole, and not those of a component
abbrev pub remark_of : CrsParts → Option Text
remark_of (whole.Single single) = remark_of_single single
remark_of (whole.Compound compound) = compound.remark

-- the name of a datum, an ensemble, an ellipsoid or a method
abbrev pub searched_name : Part → Option Text
searched_name (OfEllipsoid x) = Some x.name
searched_name (OfDatum x) = Some x.name
searched_name (OfEnsemble x) = Some x.name
searched_name (OfVerticalDatum x) = Some x.name
searched_name (OfVerticalEnsemble x) = Some x.name
searched_name (OfMethod x) = Some x.name
searched_name other = None

-- there is a text, and it has the part
abbrev pub HasTextPart : List ℕ → Option Text → Type 0
HasTextPart part text = HasOne (λ t. HasPart part t.bytes) text

-- the part of a system has such a name
abbrev pub IsNamedWith : List ℕ → Part → Type 0
IsNamedWith part x = HasTextPart part (searched_name x)

-- the remark has it, or such a name
abbrev pub IsInTexts : List ℕ → CrsParts → Type 0
IsInTexts part crs = HasTextPart part (remark_of crs) ⊎ Any (IsNamedWith part) (of_parts crs [])
