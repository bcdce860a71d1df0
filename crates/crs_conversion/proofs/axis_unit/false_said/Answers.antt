use Rattle.std.proofs.Common.{refl}
use Rattle.crs_conversion.proofs.axis_unit.false_said.Goals as goal

pub returns : goal.returns
returns c = rw c.unit_said.ensures refl
