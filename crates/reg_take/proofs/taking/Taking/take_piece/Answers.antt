use Rattle.std.proofs.Common.{◌≡◌, ◌++◌, ◌∷◌, [], ◌∙◌}
use Rattle.reg_op.specs.Pieces.{PieceRefusal, joined_piece}
use Rattle.reg_take.specs.declared.taking.Taking.{Taking}
use Rattle.reg_take.specs.Taken.{Shows, left_out, after_piece, IsRefusal}
use Rattle.reg_take.proofs.TakenLemmas.{why_not, piece_left, if_ok_weaker}
use Rattle.reg_take.proofs.taking.Taking.take_piece.Goals as goal

pub returns-in-Err : goal.returns-in-Err
returns-in-Err c t shows =
    let x = c.args.self.register in
    let l = c.args.self.left.items in
    if_ok_weaker (λ (new : Taking). new.register ≡ x) (λ (new : Taking). (why : PieceRefusal) × IsRefusal c.in-Err.fault why × (new.left.items ≡ l ++ left_out c.args.file why ∷ []))
    (λ (new : Taking). Shows new (after_piece t c.args.file c.args.piece.now (joined_piece t.content c.args.piece.now))) c.refuse_piece.result
    (λ new same refused.
    let both = piece_left t c.args.file c.args.piece.now x l new.left.items refused.0 shows.0 shows.1
    (why_not x c.args.piece.now c.join_piece.result c.join_piece.ensures.basis c.join_piece.ensures.clash c.in-Err.fault refused.0 c.in-Err.is refused.1) refused.2 in
    (same ∙ both.0, both.1))
    c.refuse_piece.ensures.register c.refuse_piece.ensures.left
