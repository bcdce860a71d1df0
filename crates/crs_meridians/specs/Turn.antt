-- Angles as exact places on a turn, in units of 10^-31 radians. An angle is a turn and the angle, so that it is no negative number.
use Rattle.std.specs.Prelude.{ℕ, ◌+◌, ◌*◌, ◌-◌, ◌%◌, ◌^◌, nat_le, nat_lt, Bool, not, ◌&&◌, ◌||◌, Option, Some, None, unsigned_abs, if◌then◌else◌}
use Rattle.std.specs.Int.{is_negative}
use Rattle.crs_number.specs.declared.decimals.Decimal.{Decimal}
use Rattle.crs_number.specs.Value.{places}
use Rattle.crs_part.specs.declared.units.UnitDefinition.{UnitDefinition}
use Rattle.crs_exact.specs.Sizes.{has_few_digits}

-- 360 degrees of 0.0174532925199433 radians
abbrev pub turn : ℕ
turn = 62831853071795880000000000000000

-- n times ten to the p, counted from 49, if that is a whole number below 10^34
abbrev pub sized : ℕ → ℕ → Option ℕ
sized n p = if nat_lt p 49 then None else if nat_lt (n * 10 ^ (p - 49)) (10 ^ 34) then Some (n * 10 ^ (p - 49)) else None

abbrev pub on_turn : Bool → Option ℕ → Option ℕ
on_turn negative None = None
on_turn negative (Some n) = if nat_lt turn n then None else if negative then Some (turn - n) else Some (turn + n)

-- so many degrees, of few digits, and at most a turn
abbrev pub in_degrees : Decimal → Option ℕ
in_degrees v = if has_few_digits v then on_turn (is_negative v.coefficient) (sized (unsigned_abs v.coefficient * 174532925199433) (places v.exponent + 24)) else None

-- the same of an angle in a unit with this factor
abbrev pub in_unit : Decimal → Decimal → Option ℕ
in_unit v f =
    if has_few_digits v && has_few_digits f then on_turn (is_negative v.coefficient) (sized (unsigned_abs v.coefficient * unsigned_abs f.coefficient) (places v.exponent + places f.exponent))
    else None

-- without a unit it is in degrees
abbrev pub in_unit_or_degrees : Decimal → Option UnitDefinition → Option ℕ
in_unit_or_degrees v None = in_degrees v
in_unit_or_degrees v (Some unit) = in_unit v unit.factor

abbrev pub reach : ℕ → ℕ
reach degrees = degrees * 174532925199433000000000000000

-- east of the west end, of an arc that begins there
abbrev pub east_of : ℕ → ℕ → ℕ
east_of west place = (place + (2 * turn - west)) % turn

-- a meridian, from a prime meridian, is more than so many degrees outside the arc that runs east from west to east
abbrev pub is_far_east : ℕ → ℕ → ℕ → ℕ → ℕ → Bool
is_far_east meridian prime west east degrees =
    not (nat_le (turn + west) east) && not (nat_le (turn + east) west)
    && nat_lt (east_of west east + 2 * reach degrees) (east_of west (meridian + prime + reach degrees))

-- a parallel is more than so many degrees south of the south, or north of the north
abbrev pub is_far_north : ℕ → ℕ → ℕ → ℕ → Bool
is_far_north parallel south north degrees = nat_lt (parallel + reach degrees) south || nat_lt (north + reach degrees) parallel
