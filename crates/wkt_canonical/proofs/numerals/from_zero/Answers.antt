use Rattle.wkt_canonical.proofs.Numbers.{zero_alone, not_below_zero}
use Rattle.wkt_canonical.proofs.numerals.from_zero.Goals as goal

pub returns-in_default : goal.returns-in_default
returns-in_default c = zero_alone c.args.text.now

pub returns-then-next-eq46 : goal.returns-then-next-eq46
returns-then-next-eq46 c = not_below_zero c.in-Some-below_one.ensures

pub returns : goal.returns
returns c = zero_alone c.args.text.now
