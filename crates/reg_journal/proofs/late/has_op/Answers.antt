use Rattle.std.proofs.Common.{◌∙◌, sym, subst}
use Rattle.reg_op.specs.Lists.{ById}
use Rattle.reg_journal.proofs.LateLemmas.{has_same, has_none}
use Rattle.reg_journal.proofs.late.has_op.Goals as goal

pub returns-in-Some : goal.returns-in-Some
returns-in-Some c =
    let found = c.in-Some.ensures.found in
    has_same c.args.register.now c.as_slice-ops.result.now c.in-Some.op.now c.args.id c.args.effect.now c.args.note.now c.does.result
    (c.as_slice-ops.ensures ∙ c.ops.ensures.items) (subst ById (sym c.as_slice-ops.ensures) c.ops.ensures.by_id) found.0 found.1
    c.does.ensures.0 (λ a b. c.does.ensures.1 (a, b))

pub returns-in-None : goal.returns-in-None
returns-in-None c = has_none c.args.register.now c.as_slice-ops.result.now c.args.id c.args.effect.now c.args.note.now (c.as_slice-ops.ensures ∙ c.ops.ensures.items) c.in-None.ensures.none
