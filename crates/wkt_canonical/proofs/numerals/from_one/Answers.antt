use Rattle.std.proofs.Common.{arith}
use Rattle.std.proofs.lemmas.Bool.Decides.{nat_tests}
use Rattle.wkt_canonical.proofs.Numbers.{from_one_whole, from_one_fraction}
use Rattle.wkt_canonical.proofs.numerals.from_one.Goals as goal

pub returns-in_default : goal.returns-in_default
returns-in_default c = from_one_whole c.requires c.split_digits.ensures (grind (arith, nat_tests)) (omega arith)

pub returns-then-period-ne46 : goal.returns-then-period-ne46
returns-then-period-ne46 c = from_one_whole c.requires c.split_digits.ensures (grind (arith, nat_tests)) (omega arith)

pub returns : goal.returns
returns c = from_one_fraction c.requires c.split_digits.ensures (grind (arith, nat_tests)) (omega arith) c.in-Some.ensures.cases.0 c.if-period-ne46.false c.in-Some-fraction.ensures
