use Rattle.std.proofs.Common.{refl}
use Rattle.crs_meridians.proofs.told.meridian_of.Goals as goal

pub returns : goal.returns
returns c = rw c.minus_said.ensures (rw c.is_west_in.ensures (rw c.from.ensures (rw c.from-2.ensures (rw c.degrees_in.ensures.value refl))))
