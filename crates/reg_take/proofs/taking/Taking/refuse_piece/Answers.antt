use Rattle.std.proofs.Common.{◌≡◌, ◌++◌, ◌∷◌, [], refl, sym, subst}
use Rattle.reg_op.specs.Pieces.{PieceRefusal, Basis, Clash}
use Rattle.reg_state.specs.declared.piece.PieceFault.{PieceFault}
use Rattle.reg_take.specs.declared.taking.Taking.{Taking}
use Rattle.reg_take.specs.Taken.{left_out, IsRefusal}
use Rattle.reg_take.proofs.TakenLemmas.{if_ok_weaker}
use Rattle.reg_take.proofs.taking.Taking.refuse_piece.Goals as goal

pub returns-in-Basis-clause-left : goal.returns-in-Basis-clause-left
returns-in-Basis-clause-left c =
    let l = c.args.self.left.items in
    let why = Basis c.in-Basis.id in
    if_ok_weaker (λ (new : Taking). new.left.items ≡ l ++ left_out c.args.file why ∷ []) (λ (new : Taking). new.left.items ≡ l ++ left_out c.args.file why ∷ [])
    (λ (new : Taking). (r : PieceRefusal) × IsRefusal c.args.fault r × (new.left.items ≡ l ++ left_out c.args.file r ∷ [])) c.leave.result
    (λ new more same. (why, subst (λ (q : PieceFault). IsRefusal q why) (sym c.in-Basis.is) refl, more)) c.leave.ensures.left c.leave.ensures.left

pub returns-in-Clash-clause-left : goal.returns-in-Clash-clause-left
returns-in-Clash-clause-left c =
    let l = c.args.self.left.items in
    let why = Clash c.in-Clash.id in
    if_ok_weaker (λ (new : Taking). new.left.items ≡ l ++ left_out c.args.file why ∷ []) (λ (new : Taking). new.left.items ≡ l ++ left_out c.args.file why ∷ [])
    (λ (new : Taking). (r : PieceRefusal) × IsRefusal c.args.fault r × (new.left.items ≡ l ++ left_out c.args.file r ∷ [])) c.leave-in-Clash.result
    (λ new more same. (why, subst (λ (q : PieceFault). IsRefusal q why) (sym c.in-Clash.is) refl, more)) c.leave-in-Clash.ensures.left c.leave-in-Clash.ensures.left
