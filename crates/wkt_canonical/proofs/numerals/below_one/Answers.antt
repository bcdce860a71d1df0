use Rattle.wkt_canonical.proofs.Numbers.{below_one}
use Rattle.wkt_canonical.proofs.numerals.below_one.Goals as goal

pub returns : goal.returns
returns c = below_one c.in-Some.ensures.cases.0 c.if-period-ne46.false c.in-Some-fraction.ensures
