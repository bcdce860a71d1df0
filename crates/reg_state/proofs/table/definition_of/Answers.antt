use Rattle.std.proofs.Common.{sym, ◌∙◌}
use Rattle.reg_op.proofs.OpLemmas.{is_same_exact}
use Rattle.reg_state.proofs.table.definition_of.Goals as goal

pub returns-in-Enter-clause-found : goal.returns-in-Enter-clause-found
returns-in-Enter-clause-found c =
    let same = is_same_exact c.args.id c.id.result (sym c.is_same.ensures ∙ c.if-not-is_same.false) in
    λ k. record { id = (sym c.id.ensures.value ∙ sym same) k; body = (sym c.body.ensures ∙ c.in-Enter.is) k; note = c.args.op.now.note }
