-- The meaning of the program's numerals.
use Rattle.crs_number.specs.Numeral.{Parts}
use Rattle.crs_number.specs.declared.numerals.Numeral.{Numeral}

-- the parts that the program has found
abbrev pub parts_of : Numeral → Parts
parts_of n = record {
  negative = n.negative;
  whole = n.whole.now;
  fraction = n.fraction.now;
  exponent_negative = n.power.negative;
  exponent = n.power.digits.now;
}
