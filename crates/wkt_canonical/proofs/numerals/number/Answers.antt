use Rattle.wkt_canonical.proofs.Numbers.{below_zero}
use Rattle.wkt_canonical.proofs.numerals.number.Goals as goal

pub returns-then-first-eq45 : goal.returns-then-first-eq45
returns-then-first-eq45 c = below_zero c.in-Some.ensures.cases.0 c.if-first-eq45.true c.in-Some-positive_number.ensures
