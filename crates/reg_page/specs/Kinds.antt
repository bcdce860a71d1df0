-- The words for kinds, and the areas of use.
use Rattle.std.specs.Prelude.{ℕ, List, [], ◌∷◌, codes, Option, Some, None}
use Rattle.std.specs.List.{flat_map}
use Rattle.crs_part.specs.declared.text.Text.{Text}
use Rattle.crs_part.specs.declared.usages.Usage.{Usage}
use Rattle.crs_value.specs.declared.search.kind.Kind.{Kind}
use Rattle.crs_value.specs.declared.search.kind.Kind.TheVariants.{Geographic, Geodetic, Projected, Vertical, Compound}

abbrev pub kind_word : Kind → List ℕ
kind_word Geographic = codes "geographic"
kind_word Geodetic = codes "geodetic"
kind_word Projected = codes "projected"
kind_word Vertical = codes "vertical"
kind_word Compound = codes "compound"

abbrev pub area_bytes : Option Text → List (List ℕ)
area_bytes None = []
area_bytes (Some text) = text.bytes ∷ []

abbrev pub areas_in : List Usage → List (List ℕ)
areas_in usages = flat_map (λ (u : Usage). area_bytes u.area) usages
