use Rattle.std.proofs.Common.{Ok, sym, ap, drop, ◌+◌, ◌∙◌}
use Rattle.std.proofs.lemmas.List.{at_drop_more}
use Rattle.reg_op.specs.Pieces.{joined_piece, Basis, Clash}
use Rattle.reg_tree.specs.Chain.{with_pieces}
use Rattle.reg_tree.proofs.Held.{stays}
use Rattle.reg_tree.proofs.pieces.join_each.Goals as goal

pub returns-in-Err-clause-basis : goal.returns-in-Err-clause-basis
returns-in-Err-clause-basis c = λ id h.
    let rest = drop (c.loop-piece.piece-index + 1) c.args.pieces.now in
    sym c.loop-piece.invariant
    ∙ at_drop_more (λ qs. with_pieces (Ok c.loop-piece.joined) qs) c.args.pieces.now c.loop-piece.piece-index c.piece-item.result c.loop-piece-test.true
    ∙ ap (λ r. with_pieces r rest) (ap (joined_piece c.loop-piece.joined) (sym c.piece-item.is) ∙ (c.join_piece.ensures.basis id).0 (c.in-Err.is ∙ h))
    ∙ stays (Basis id) rest

pub returns-in-Err-clause-clash : goal.returns-in-Err-clause-clash
returns-in-Err-clause-clash c = λ id h.
    let rest = drop (c.loop-piece.piece-index + 1) c.args.pieces.now in
    sym c.loop-piece.invariant
    ∙ at_drop_more (λ qs. with_pieces (Ok c.loop-piece.joined) qs) c.args.pieces.now c.loop-piece.piece-index c.piece-item.result c.loop-piece-test.true
    ∙ ap (λ r. with_pieces r rest) (ap (joined_piece c.loop-piece.joined) (sym c.piece-item.is) ∙ (c.join_piece.ensures.clash id).0 (c.in-Err.is ∙ h))
    ∙ stays (Clash id) rest
