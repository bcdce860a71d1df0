use Rattle.reg_take.proofs.SameLemmas.{op_is}
use Rattle.reg_take.proofs.same.is_same_op.Goals as goal

pub returns : goal.returns
returns c = op_is c.args.left.now c.args.right.now c.is_same.result c.is_same.ensures
