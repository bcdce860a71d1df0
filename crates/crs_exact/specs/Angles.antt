-- Angles in their units, compared exactly. Without a unit an angle is in degrees.
use Rattle.std.specs.Prelude.{ℕ, ◌+◌, ◌-◌, ◌*◌, nat_le, Bool, false, not, ◌&&◌, ◌||◌, List, Option, Some, None, codes, if◌then◌else◌}
use Rattle.std.specs.Int.{is_negative}
use Rattle.crs_number.specs.declared.decimals.Decimal.{Decimal}
use Rattle.crs_part.specs.declared.units.UnitDefinition.{UnitDefinition}
use Rattle.crs_exact.specs.Names.{begins}
use Rattle.crs_exact.specs.Sizes.{is_below, is_beyond, is_product_below, is_product_beyond}

-- packed degrees, minutes and seconds, which no factor turns into an angle
abbrev pub is_packed_unit : List ℕ → Bool
is_packed_unit name = begins (codes "sexagesimal") name

abbrev pub is_packed : Option UnitDefinition → Bool
is_packed None = false
is_packed (Some unit) = is_packed_unit unit.name.bytes

abbrev pub is_on_side : Decimal → Bool → ℕ → ℕ → Bool
is_on_side v west n slack = nat_le n slack || (if is_negative v.coefficient then west else not west)

-- the size is n with p decimal places, but for the slack
abbrev pub is_sized : Decimal → Option UnitDefinition → ℕ → ℕ → ℕ → Bool
is_sized v None n slack p = not (is_below v (n - slack) p) && not (is_beyond v (n + slack) p)
is_sized v (Some unit) n slack p =
    not (is_product_below v unit.factor ((n - slack) * 174532925199433) (p + 16))
    && not (is_product_beyond v unit.factor ((n + slack) * 174532925199433) (p + 16))

-- an angle is at n degrees with p decimal places east or west, but for the slack
abbrev pub is_at : Decimal → Option UnitDefinition → Bool → ℕ → ℕ → ℕ → Bool
is_at v unit west n slack p = is_on_side v west n slack && is_sized v unit n slack p

-- it is neither at n millionths of a degree nor a whole turn from there; packed degrees, minutes and seconds are passed over
abbrev pub is_elsewhere : Decimal → Option UnitDefinition → Bool → ℕ → ℕ → Bool
is_elsewhere v unit west n slack = not (is_packed unit) && not (is_at v unit west n slack 6) && not (is_at v unit (not west) (360000000 - n) slack 6)
