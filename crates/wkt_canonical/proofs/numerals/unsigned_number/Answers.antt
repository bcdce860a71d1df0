use Rattle.wkt_canonical.proofs.Numbers.{not_below_zero}
use Rattle.wkt_canonical.proofs.numerals.unsigned_number.Goals as goal

pub returns : goal.returns
returns c = not_below_zero c.in-Some-from_one.ensures
