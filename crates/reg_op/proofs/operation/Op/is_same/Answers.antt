use Rattle.reg_op.proofs.OpLemmas.{same_test}
use Rattle.reg_op.proofs.operation.Op.is_same.Goals as goal

pub returns : goal.returns
returns c = same_test c.args.self.now c.args.other.now c.equals.result c.equals.ensures
