-- A unit of a known name whose factor differs from the known one by more than one part in 10^10.
use Rattle.std.specs.Prelude.{ℕ, ◌*◌, Bool, false, ◌||◌, List, [], ◌∷◌, Option, Some, None, codes}
use Rattle.std.specs.List.{concat}
use Rattle.std.specs.Option.{option_map_or}
use Rattle.crs_number.specs.Canonical.{canonical}
use Rattle.crs_number.specs.declared.decimals.Decimal.{Decimal}
use Rattle.crs_part.specs.declared.units.UnitDefinition.{UnitDefinition}
use Rattle.crs_exact.specs.Sizes.{is_below, is_beyond}
use Rattle.crs_exact.specs.Tables.{before, past, fixed, row_of}
use Rattle.crs_names.specs.declared.units.TheConstants.{UNITS}

-- more than one part in 10^10 from so many units of 10^-20
abbrev pub is_off : ℕ → Decimal → Bool
is_off n f = is_below f (n * 9999999999) 30 || is_beyond f (n * 10000000001) 30

-- a row has a name, a factor and a source
abbrev pub factor : List ℕ → List ℕ
factor row = before 59 (past 59 row)

abbrev pub source : List ℕ → List ℕ
source row = before 59 (past 59 (past 59 row))

abbrev pub off_by : Option ℕ → Decimal → Bool
off_by None f = false
off_by (Some n) f = is_off n f

abbrev pub is_row_off : List ℕ → Decimal → Bool
is_row_off row f = off_by (fixed (codes "00000000000000000000") (factor row)) f

abbrev off_from : Option (List ℕ) → Decimal → Bool
off_from None f = false
off_from (Some row) f = is_row_off row f

-- a unit of a known name, in any letter case, with another factor
abbrev pub is_unit_odd : UnitDefinition → Bool
is_unit_odd unit = off_from (row_of UNITS.now unit.name.bytes) unit.factor

abbrev itself : List ℕ → List ℕ
itself row = row

abbrev pub row_known : List ℕ → List ℕ
row_known name = option_map_or itself (row_of UNITS.now name) []

abbrev told : UnitDefinition → List ℕ → List ℕ
told unit row =
    concat
    (codes "\""
    ∷ unit.name.bytes
    ∷ codes "\" is given as "
    ∷ canonical unit.factor.coefficient unit.factor.exponent
    ∷ codes ", and "
    ∷ source row
    ∷ codes " has "
    ∷ factor row
    ∷ [])

abbrev pub unit_said : UnitDefinition → List ℕ
unit_said unit = told unit (row_known unit.name.bytes)
