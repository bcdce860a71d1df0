-- Two axes of one system, neither with a meridian, on one line: the same direction, or its opposite.
use Rattle.std.specs.Prelude.{ℕ, ◌==◌, Bool, false, ◌&&◌, ◌||◌, List, [], ◌∷◌, is_none, codes, Option, Some, None, if◌then◌else◌}
use Rattle.std.specs.List.{list_any, concat}
use Rattle.crs_part.specs.declared.systems.Direction.{Direction}
use Rattle.crs_part.specs.declared.systems.Direction.TheVariants as to
use Rattle.crs_part.specs.declared.systems.Axis.{Axis}
use Rattle.crs_part.specs.declared.crs.Single.{Single}
use Rattle.crs_exact.specs.Parts.{name_in}
use Rattle.crs_part.specs.Slots.{axes_of}

-- a number for each line: opposite directions have the same one
abbrev pub line_of : Direction → ℕ
line_of to.North = 0
line_of to.South = 0
line_of to.NorthNorthEast = 1
line_of to.SouthSouthWest = 1
line_of to.NorthEast = 2
line_of to.SouthWest = 2
line_of to.EastNorthEast = 3
line_of to.WestSouthWest = 3
line_of to.East = 4
line_of to.West = 4
line_of to.EastSouthEast = 5
line_of to.WestNorthWest = 5
line_of to.SouthEast = 6
line_of to.NorthWest = 6
line_of to.SouthSouthEast = 7
line_of to.NorthNorthWest = 7
line_of to.GeocentricX = 8
line_of to.GeocentricY = 9
line_of to.GeocentricZ = 10
line_of to.Up = 11
line_of to.Down = 11

abbrev pub shares_line : Axis → Axis → Bool
shares_line a b = line_of a.direction == line_of b.direction && is_none a.meridian && is_none b.meridian

-- some axis and a later one do
abbrev pub share_lines : List Axis → Bool
share_lines [] = false
share_lines (a ∷ axes) = list_any (shares_line a) axes || share_lines axes

abbrev pub axes_said : List ℕ → List ℕ
axes_said name = concat (codes "two axes of \"" ∷ name ∷ codes "\" lie on one line: they have the same direction, or opposite ones" ∷ [])

abbrev pub axes : Single → Option (List ℕ)
axes crs = if share_lines (axes_of crs) then Some (axes_said (name_in crs)) else None
