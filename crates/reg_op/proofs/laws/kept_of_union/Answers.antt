use Rattle.reg_op.proofs.OpLemmas.{kept-union}
use Rattle.reg_op.proofs.laws.kept_of_union.Goals as goal

pub returns : goal.returns
returns c = kept-union
