-- The slots that the kinds of coordinate reference systems have in common.
use Rattle.std.specs.Prelude.{List, ◌∷◌, Option}
use Rattle.crs_part.specs.declared.text.Text.{Text}
use Rattle.crs_part.specs.declared.identifiers.Ident.{Ident}
use Rattle.crs_part.specs.declared.units.Unit.{Unit}
use Rattle.crs_part.specs.declared.many.NonEmpty.{NonEmpty}
use Rattle.crs_part.specs.declared.datums.Ellipsoid.{Ellipsoid}
use Rattle.crs_part.specs.declared.datums.GeodeticFrame.{GeodeticFrame}
use Rattle.crs_part.specs.declared.datums.GeodeticFrame.TheVariants.{Datum, Ensemble}
use Rattle.crs_part.specs.declared.systems.Axis.{Axis}
use Rattle.crs_part.specs.declared.systems.CoordSystem.{CoordSystem}
use Rattle.crs_part.specs.declared.crs.Single.{Single}
use Rattle.crs_part.specs.declared.crs.Single.TheVariants.{Geodetic, Projected, Vertical}
use Rattle.crs_part.specs.declared.crs.CrsParts.{CrsParts}
use Rattle.crs_part.specs.declared.crs.CrsParts.TheVariants as whole

-- the items of a list that has one at least
abbrev pub items_of : {T : Type 0} → NonEmpty T → List T
items_of some = some.first ∷ some.others

abbrev pub ellipsoid_of : GeodeticFrame → Ellipsoid
ellipsoid_of (Datum datum) = datum.ellipsoid
ellipsoid_of (Ensemble ensemble) = ensemble.ellipsoid

abbrev pub system_of : Single → CoordSystem
system_of (Geodetic crs) = crs.system
system_of (Projected crs) = crs.system
system_of (Vertical crs) = crs.system

abbrev pub axes_of : Single → List Axis
axes_of (Geodetic crs) = items_of crs.axes
axes_of (Projected crs) = items_of crs.axes
axes_of (Vertical crs) = items_of crs.axes

-- the common unit after the axes
abbrev pub common_unit_of : Single → Option Unit
common_unit_of (Geodetic crs) = crs.unit
common_unit_of (Projected crs) = crs.unit
common_unit_of (Vertical crs) = crs.unit

abbrev name_of_single : Single → Text
name_of_single (Geodetic crs) = crs.name
name_of_single (Projected crs) = crs.name
name_of_single (Vertical crs) = crs.name

abbrev ids_of_single : Single → List Ident
ids_of_single (Geodetic crs) = crs.ids
ids_of_single (Projected crs) = crs.ids
ids_of_single (Vertical crs) = crs.ids

abbrev pub name_of : CrsParts → Text
name_of (whole.Single single) = name_of_single single
name_of (whole.Compound compound) = compound.name

-- the identifiers of the whole, and not those of a component
abbrev pub ids_of : CrsParts → List Ident
ids_of (whole.Single single) = ids_of_single single
ids_of (whole.Compound compound) = compound.ids
