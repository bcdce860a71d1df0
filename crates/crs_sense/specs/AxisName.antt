-- An axis without a meridian whose name tells another direction.
use Rattle.std.specs.Prelude.{ℕ, Bool, true, false, not, ◌&&◌, ◌||◌, List, [], ◌∷◌, Option, codes, is_none}
use Rattle.std.specs.List.{find, concat}
use Rattle.std.specs.Option.{option_map}
use Rattle.crs_part.specs.Words.{direction_word}
use Rattle.crs_part.specs.declared.systems.Direction.{Direction}
use Rattle.crs_part.specs.declared.systems.Direction.TheVariants.{North, East, South, West, Up, Down}
use Rattle.crs_part.specs.declared.systems.Axis.{Axis}
use Rattle.crs_part.specs.declared.crs.Single.{Single}
use Rattle.crs_part.specs.Slots.{axes_of}
use Rattle.crs_exact.specs.Names.{is_named, is_called}

abbrev pub tells_north : List ℕ → Bool
tells_north n = is_named (codes "(N)") n || is_called (codes "northing") n || is_called (codes "latitude") n || is_called (codes "geodetic latitude") n

abbrev pub tells_east : List ℕ → Bool
tells_east n = is_named (codes "(E)") n || is_called (codes "easting") n

abbrev pub tells_south : List ℕ → Bool
tells_south n = is_named (codes "(S)") n || is_called (codes "southing") n

abbrev pub tells_west : List ℕ → Bool
tells_west n = is_named (codes "(W)") n || is_called (codes "westing") n

-- longitudes run east, or west on other bodies
abbrev pub tells_east_or_west : List ℕ → Bool
tells_east_or_west n = is_called (codes "longitude") n || is_called (codes "geodetic longitude") n

abbrev pub tells_up : List ℕ → Bool
tells_up n = is_called (codes "height") n || is_called (codes "gravity-related height") n || is_called (codes "ellipsoidal height") n

abbrev pub tells_down : List ℕ → Bool
tells_down n = is_called (codes "depth") n

abbrev pub is_north : Direction → Bool
is_north North = true
is_north direction = false

abbrev pub is_east : Direction → Bool
is_east East = true
is_east direction = false

abbrev pub is_south : Direction → Bool
is_south South = true
is_south direction = false

abbrev pub is_west : Direction → Bool
is_west West = true
is_west direction = false

abbrev pub is_up : Direction → Bool
is_up Up = true
is_up direction = false

abbrev pub is_down : Direction → Bool
is_down Down = true
is_down direction = false

-- the name tells a direction of the horizon, and not this one
abbrev pub tells_other_side : Direction → List ℕ → Bool
tells_other_side d n =
    (tells_north n && not (is_north d))
    || (tells_east n && not (is_east d))
    || (tells_south n && not (is_south d))
    || (tells_west n && not (is_west d))

-- it tells another direction, and not this one
abbrev pub tells_other_way : Direction → List ℕ → Bool
tells_other_way d n =
    (tells_east_or_west n && not (is_east d) && not (is_west d))
    || (tells_up n && not (is_up d))
    || (tells_down n && not (is_down d))

abbrev pub is_axis_odd : Axis → Bool
is_axis_odd axis = is_none axis.meridian && (tells_other_side axis.direction axis.name.bytes || tells_other_way axis.direction axis.name.bytes)

abbrev pub axis_name_said : Axis → List ℕ
axis_name_said axis = concat (codes "the axis \"" ∷ axis.name.bytes ∷ codes "\" points " ∷ direction_word axis.direction ∷ [])

abbrev pub axis_name : Single → Option (List ℕ)
axis_name crs = option_map axis_name_said (find is_axis_odd (axes_of crs))
