-- Angles that are round: so many degrees as a whole number of arc-seconds, so many radians as a whole number of arc-minutes.
use Rattle.std.specs.Prelude.{ℕ, ◌+◌, ◌*◌, ◌-◌, ◌/◌, ◌%◌, ◌^◌, nat_le, nat_lt, Bool, ◌||◌, Option, Some, None, unsigned_abs, if◌then◌else◌}
use Rattle.crs_number.specs.declared.decimals.Decimal.{Decimal}
use Rattle.crs_number.specs.Value.{places}

-- the size of an angle in units of 10^-33, if it has no more decimals and is below 10
abbrev pub fine : Decimal → Option ℕ
fine v =
    if nat_lt (places v.exponent) 7 then None
    else if nat_lt (unsigned_abs v.coefficient * 10 ^ (places v.exponent - 7)) (10 ^ 34) then Some (unsigned_abs v.coefficient * 10 ^ (places v.exponent - 7))
    else None

-- a degree of 0.0174532925199433 radians, in units of 10^-33 radians
abbrev pub degree : ℕ
degree = 17453292519943300000000000000000

-- so many degrees are a whole number of arc-seconds, to 10^-5 of one
abbrev pub is_whole_seconds : ℕ → Bool
is_whole_seconds n =
    nat_le (n * 3600 % 1000000000000000000000000000000000) 10000000000000000000000000000
    || nat_le 999990000000000000000000000000000 (n * 3600 % 1000000000000000000000000000000000)

-- so many radians are a whole number of arc-minutes, to 10^-6 degrees
abbrev pub is_whole_minutes : ℕ → Bool
is_whole_minutes n =
    nat_lt (n * 60 % degree) 1047197551196598000000000000
    || nat_lt 17452245322392103402000000000000 (n * 60 % degree)

-- the arc-minutes that are nearest to so many radians
abbrev pub minutes : ℕ → ℕ
minutes n = (n * 60 + 8726646259971650000000000000000) / degree
