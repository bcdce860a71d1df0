use Rattle.reg_op.proofs.PieceLemmas.{piece_is}
use Rattle.reg_op.proofs.RefusalLemmas.{missing_least, missing_none}
use Rattle.reg_op.proofs.laws.pieces_are.Goals as goal

pub returns : goal.returns
returns c = record { piece = piece_is; missing = missing_least; held = missing_none }
