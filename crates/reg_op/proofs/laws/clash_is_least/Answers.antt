use Rattle.reg_op.proofs.ClashLemmas.{clash_least, clash_none}
use Rattle.reg_op.proofs.laws.clash_is_least.Goals as goal

pub returns : goal.returns
returns c = record { least = clash_least; none = clash_none }
