use Rattle.std.proofs.Common.{sym, ◌∙◌, refl}
use Rattle.reg_op.proofs.OpLemmas.{is_same_exact}
use Rattle.reg_journal.proofs.forged.having.Goals as goal

pub returns-clause-found : goal.returns-clause-found
returns-clause-found c =
    let same = is_same_exact c.args.id c.id.result (sym c.is_same.ensures ∙ c.if-not-is_same.false) in
    (refl, sym c.id.ensures.value ∙ sym same)
