-- A prime meridian of a known name whose longitude differs from the known one by more than 10^-8 degrees.
use Rattle.std.specs.Prelude.{ℕ, nat_lt, Bool, false, not, ◌&&◌, List, [], ◌∷◌, drop, Option, Some, None, codes, if◌then◌else◌}
use Rattle.std.specs.List.{concat}
use Rattle.std.specs.Option.{option_or, option_and_then}
use Rattle.crs_number.specs.declared.decimals.Decimal.{Decimal}
use Rattle.crs_number.specs.Canonical.{canonical}
use Rattle.crs_part.specs.declared.units.UnitDefinition.{UnitDefinition}
use Rattle.crs_part.specs.declared.datums.PrimeMeridian.{PrimeMeridian}
use Rattle.crs_part.specs.declared.crs.Single.{Single}
use Rattle.crs_exact.specs.Angles.{is_packed, is_at}
use Rattle.crs_exact.specs.Names.{begins}
use Rattle.crs_exact.specs.Parts.{base_unit, angles_of, prime_in}
use Rattle.crs_exact.specs.Tables.{before, past, fixed, row_of}
use Rattle.crs_sense.specs.declared.meridians.TheConstants.{MERIDIANS}

-- a row has a name, degrees east of Greenwich, and a source
abbrev pub longitude : List ℕ → List ℕ
longitude row = before 59 (past 59 row)

abbrev pub source : List ℕ → List ℕ
source row = past 59 (past 59 row)

-- without a sign
abbrev pub size : List ℕ → List ℕ
size row = if begins (codes "-") (longitude row) then drop 1 (longitude row) else longitude row

-- by more than 10^-8 degrees
abbrev pub is_off : Option ℕ → Decimal → Option UnitDefinition → Bool → Bool
is_off None v unit west = false
is_off (Some n) v unit west = nat_lt n 1000000000000000 && not (is_at v unit west n 10000 12)

-- packed degrees, minutes and seconds are passed over
abbrev pub is_row_off : List ℕ → Decimal → Option UnitDefinition → Bool
is_row_off row v unit = not (is_packed unit) && is_off (fixed (codes "000000000000") (size row)) v unit (begins (codes "-") (longitude row))

-- the name of its unit; without one it is in degrees
abbrev pub unit_named : Option UnitDefinition → List ℕ
unit_named None = codes "degrees"
unit_named (Some unit) = unit.name.bytes

abbrev pub prime_said : PrimeMeridian → Option UnitDefinition → List ℕ → List ℕ
prime_said m unit row =
    concat
    (codes "the prime meridian \""
    ∷ m.name.bytes
    ∷ codes "\" is given at "
    ∷ canonical m.longitude.coefficient m.longitude.exponent
    ∷ codes " "
    ∷ unit_named unit
    ∷ codes ", and "
    ∷ source row
    ∷ codes " has "
    ∷ longitude row
    ∷ codes " degrees"
    ∷ [])

abbrev pub beside : PrimeMeridian → Option UnitDefinition → List ℕ → Option (List ℕ)
beside m unit row = if is_row_off row m.longitude unit then Some (prime_said m unit row) else None

abbrev pub prime_of : PrimeMeridian → Option UnitDefinition → Option (List ℕ)
prime_of m unit = option_and_then (beside m unit) (row_of MERIDIANS.now m.name.bytes)

-- in its own unit, or else in that of its system
abbrev pub prime_at : Option UnitDefinition → PrimeMeridian → Option (List ℕ)
prime_at common m = prime_of m (option_or (base_unit m.unit) common)

abbrev pub prime : Single → Option (List ℕ)
prime crs = option_and_then (prime_at (angles_of crs)) (prime_in crs)
