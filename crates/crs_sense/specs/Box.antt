-- A bounding box with a latitude beyond 90 or a longitude beyond 180, with no height, with no width, or the wrong way round.
use Rattle.std.specs.Prelude.{ℕ, Bool, int_lt, false, not, ◌&&◌, ◌||◌, List, [], ◌∷◌, Option, Some, None, codes, if◌then◌else◌}
use Rattle.std.specs.Ordering.{int_eq}
use Rattle.std.specs.Option.{option_map, option_and_then}
use Rattle.std.specs.List.{find, concat}
use Rattle.crs_number.specs.Canonical.{canonical}
use Rattle.crs_number.specs.declared.decimals.Decimal.{Decimal}
use Rattle.crs_number.specs.Value.{units}
use Rattle.crs_part.specs.declared.usages.BoundingBox.{BoundingBox}
use Rattle.crs_part.specs.declared.usages.Usage.{Usage}
use Rattle.crs_exact.specs.Sizes.{is_beyond}
use Rattle.crs_sense.specs.Swapped.{is_swapped}

-- the first is below the second
abbrev pub is_less : Decimal → Decimal → Bool
is_less a b = int_lt (units a.coefficient a.exponent) (units b.coefficient b.exponent)

-- a latitude beyond 90, or a longitude beyond 180
abbrev pub is_off_globe : BoundingBox → Bool
is_off_globe b = is_beyond b.south 90 0 || is_beyond b.north 90 0 || is_beyond b.west 180 0 || is_beyond b.east 180 0

abbrev pub has_no_width : BoundingBox → Bool
has_no_width b = int_eq b.west.coefficient b.east.coefficient && int_eq b.west.exponent b.east.exponent

-- a latitude beyond 90, a longitude beyond 180, south not below north, west equal to east, or west and east swapped
abbrev pub is_box_odd : BoundingBox → Bool
is_box_odd b = is_off_globe b || not (is_less b.south b.north) || has_no_width b || is_swapped b

abbrev pub has_box_odd : Option BoundingBox → Bool
has_box_odd None = false
has_box_odd (Some found) = is_box_odd found

abbrev pub is_usage_odd : Usage → Bool
is_usage_odd usage = has_box_odd usage.bounding_box

abbrev pub box_what : BoundingBox → List ℕ
box_what b =
    if is_beyond b.south 90 0 || is_beyond b.north 90 0 then codes "a latitude ends at 90 degrees"
    else if is_beyond b.west 180 0 || is_beyond b.east 180 0 then codes "a longitude ends at 180 degrees"
    else if not (is_less b.south b.north) then codes "its south is not below its north"
    else if is_swapped b then codes "it runs the long way, over the antimeridian; are west and east swapped?"
    else codes "its west is its east"

abbrev pub box_said : BoundingBox → List ℕ
box_said b =
    concat
    (codes "the box has south "
    ∷ canonical b.south.coefficient b.south.exponent
    ∷ codes ", west "
    ∷ canonical b.west.coefficient b.west.exponent
    ∷ codes ", north "
    ∷ canonical b.north.coefficient b.north.exponent
    ∷ codes ", east "
    ∷ canonical b.east.coefficient b.east.exponent
    ∷ codes ": "
    ∷ box_what b
    ∷ [])

abbrev usage_said : Usage → Option (List ℕ)
usage_said usage = option_map box_said usage.bounding_box

abbrev pub boxes : List Usage → Option (List ℕ)
boxes usages = option_and_then usage_said (find is_usage_odd usages)
