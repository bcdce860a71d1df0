use Rattle.std.proofs.Common.{◌≡◌, ◌∙◌, true, not, ap, sym, subst}
use Rattle.reg_op.specs.Set as set
use Rattle.reg_op.specs.declared.operation.OpBody.{OpBody as Body}
use Rattle.reg_journal.specs.Again.{still_holds}
use Rattle.reg_journal.proofs.LateLemmas.{entered}
use Rattle.reg_journal.proofs.late.still_holds.Goals as goal

pub returns-in-Enter : goal.returns-in-Enter
returns-in-Enter c =
    let there = subst (λ (b : Body). set.contains c.args.register.now.ops (record { id = c.args.id; body = b; note = c.requires.0 }) ≡ true) c.in-Enter.is c.requires.1 in
    ap not (c.is_retired.ensures (entered c.args.register.now c.args.id _ c.requires.0 there)) ∙ sym (ap (still_holds c.args.register.now.ops c.args.id) c.in-Enter.is)
