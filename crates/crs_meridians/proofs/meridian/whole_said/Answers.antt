use Rattle.std.proofs.Common.{refl}
use Rattle.crs_meridians.proofs.meridian.whole_said.Goals as goal

pub returns : goal.returns
returns c = rw c.side_said.ensures (rw c.from.ensures refl)
