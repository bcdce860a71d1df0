use Rattle.reg_take.proofs.AtOnceLemmas.{pieces_next}
use Rattle.reg_take.proofs.at_once.copies_of_pieces.Goals as goal

pub loop-arrival-preserved : goal.loop-arrival-preserved
loop-arrival-preserved c = pieces_next _ _ _ _ _ _ c.in-Some.ensures.cases.0 c.in_ok-push_piece.ensures c.loop-arrival.invariant
