-- A bounding box whose west and east look swapped: the west is more than 0.1 and less than 160 degrees east of the east, so that the box runs the long way, over the antimeridian.
use Rattle.std.specs.Prelude.{ℕ, ◌+◌, ◌*◌, ◌-◌, ◌^◌, nat_lt, Bool, false, ◌&&◌, Option, Some, None, unsigned_abs, if◌then◌else◌}
use Rattle.std.specs.Int.{is_negative}
use Rattle.crs_number.specs.declared.decimals.Decimal.{Decimal}
use Rattle.crs_number.specs.Value.{places}
use Rattle.crs_part.specs.declared.usages.BoundingBox.{BoundingBox}

-- 180 degrees, in units of 10^-17 degrees
abbrev pub half : ℕ
half = 18000000000000000000

-- n times ten to the p, counted from 23, if that is a whole number below 10^34
abbrev pub fine : ℕ → ℕ → Option ℕ
fine n p = if nat_lt p 23 then None else if nat_lt (n * 10 ^ (p - 23)) (10 ^ 34) then Some (n * 10 ^ (p - 23)) else None

abbrev pub east_of_half : Bool → Option ℕ → Option ℕ
east_of_half west None = None
east_of_half west (Some n) = if nat_lt half n then None else if west then Some (half - n) else Some (half + n)

-- a longitude from 180 degrees west, of at most 180 degrees and at most 17 decimals
abbrev pub from_half : Decimal → Option ℕ
from_half d = east_of_half (is_negative d.coefficient) (fine (unsigned_abs d.coefficient) (places d.exponent))

abbrev pub are_swapped : Option ℕ → Option ℕ → Bool
are_swapped None east = false
are_swapped (Some w) None = false
are_swapped (Some w) (Some e) = nat_lt (e + 10000000000000000) w && nat_lt w (e + 16000000000000000000)

abbrev pub is_swapped : BoundingBox → Bool
is_swapped b = are_swapped (from_half b.west) (from_half b.east)
