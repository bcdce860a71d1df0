-- A vertical system with `height` in its name and an axis down, or with `depth` and an axis up.
use Rattle.std.specs.Prelude.{ℕ, Bool, false, not, ◌&&◌, List, [], ◌∷◌, codes, Option, Some, None, if◌then◌else◌}
use Rattle.std.specs.List.{concat}
use Rattle.crs_part.specs.Words.{direction_word}
use Rattle.crs_part.specs.declared.systems.Direction.{Direction}
use Rattle.crs_part.specs.declared.systems.Direction.TheVariants.{Up, Down}
use Rattle.crs_part.specs.declared.crs.Vertical.{Vertical as OfVertical}
use Rattle.crs_part.specs.declared.crs.Single.{Single}
use Rattle.crs_part.specs.declared.crs.Single.TheVariants.{Geodetic, Projected, Vertical}
use Rattle.crs_exact.specs.Names.{has_part}

abbrev pub is_against : Direction → List ℕ → Bool
is_against Up name = has_part (codes "depth") name && not (has_part (codes "height") name)
is_against Down name = has_part (codes "height") name && not (has_part (codes "depth") name)
is_against direction name = false

abbrev pub height_said : List ℕ → Direction → List ℕ
height_said name direction = concat (codes "\"" ∷ name ∷ codes "\", and its axis points " ∷ direction_word direction ∷ [])

abbrev pub against : OfVertical → Option (List ℕ)
against crs = if is_against crs.axes.first.direction crs.name.bytes then Some (height_said crs.name.bytes crs.axes.first.direction) else None

abbrev pub height : Single → Option (List ℕ)
height (Geodetic crs) = None
height (Projected crs) = None
height (Vertical crs) = against crs
