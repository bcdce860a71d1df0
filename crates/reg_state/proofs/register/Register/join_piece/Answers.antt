use Rattle.std.proofs.Common.{◌≡◌, sym, ap, ◌∙◌, Err}
use Rattle.reg_op.specs.declared.joining.JoinFault.{JoinFault}
use Rattle.reg_state.proofs.PieceLemmas.{clash_of_part}
use Rattle.reg_state.proofs.register.Register.join_piece.Goals as goal

pub returns-in-Clash-clause-clash : goal.returns-in-Clash-clause-clash
returns-in-Clash-clause-clash c = λ id.
    let is = clash_of_part c.args.self.now c.piece.inside.basis c.seen.result.now c.piece.inside.part c.args.piece.now c.piece.view_is c.seen.ensures.value
    (sym c.first_outside.ensures ∙ c.in_default.is) id in
    let told = c.join.ensures.clash id in (
      λ e. let same : c.in-Clash.id ≡ id = cc in is.1 (told.0 (c.in-Err.is ∙ ap Err (c.in-Clash.is ∙ ap JoinFault.Clash same))),
      λ e. let at = told.1 (is.0 e) in cc,
    )

pub returns-in-Memory-clause-clash : goal.returns-in-Memory-clause-clash
returns-in-Memory-clause-clash c = λ id.
    let is = clash_of_part c.args.self.now c.piece.inside.basis c.seen.result.now c.piece.inside.part c.args.piece.now c.piece.view_is c.seen.ensures.value
    (sym c.first_outside.ensures ∙ c.in_default.is) id in
    (λ e. cc, λ e. let at = (c.join.ensures.clash id).1 (is.0 e) in cc)
