use Rattle.reg_op.proofs.DroppedLemmas.{dropped_least, dropped_none}
use Rattle.reg_op.proofs.laws.dropped_is_least.Goals as goal

pub returns : goal.returns
returns c = record { least = dropped_least; none = dropped_none }
