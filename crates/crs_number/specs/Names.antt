-- The name of a fault of a numeral.
use Rattle.std.specs.Prelude.{ℕ, List, codes}
use Rattle.crs_number.specs.declared.decimals.NumberFault.{NumberFault}
use Rattle.crs_number.specs.declared.decimals.NumberFault.TheVariants.{BadNumber, NumberRange}

abbrev pub name_of : NumberFault → List ℕ
name_of BadNumber = codes "BadNumber"
name_of NumberRange = codes "NumberRange"
