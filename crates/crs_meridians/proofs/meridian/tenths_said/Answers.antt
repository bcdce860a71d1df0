use Rattle.std.proofs.Common.{refl}
use Rattle.crs_meridians.proofs.meridian.tenths_said.Goals as goal

pub returns : goal.returns
returns c = rw c.side_said.ensures (rw c.from.ensures (rw c.from-2.ensures refl))
