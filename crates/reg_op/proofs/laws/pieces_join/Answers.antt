use Rattle.reg_op.proofs.RefusalLemmas.{pieces_joined}
use Rattle.reg_op.proofs.laws.pieces_join.Goals as goal

pub returns : goal.returns
returns c = pieces_joined
