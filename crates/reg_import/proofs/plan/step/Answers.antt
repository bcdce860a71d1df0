use Rattle.std.proofs.Common.{◌+◌, length, refl}
use Rattle.reg_import.proofs.StepLemmas.{step_unread, step_defined_by}
use Rattle.reg_import.proofs.plan.step.Goals as goal

pub returns-in-Unread-clause-told : goal.returns-in-Unread-clause-told
returns-in-Unread-clause-told c = λ at i.
    let rules = c.args.rules.now in
    let ops = c.args.made.now.ops.items in
    step_unread rules.differs rules.replica (rules.first + length ops) rules.note.now c.args.reading.now at c.args.made.now.index ops _ c.in-Unread.is i

pub returns-in_ok-told-in-Defined-clause-told : goal.returns-in_ok-told-in-Defined-clause-told
returns-in_ok-told-in-Defined-clause-told c = λ at i.
    let rules = c.args.rules.now in
    let ops = c.args.made.now.ops.items in
    step_defined_by rules.differs rules.replica (rules.first + length ops) rules.note.now c.args.reading.now at c.step_defined.new.made.index ops c.step_defined.new.made.ops.items
    c.in_ok-told-in-Defined.told c.in-Defined.definition _ _ c.in-Defined.is refl (c.in_ok-told-in-Defined.ensures.told at i)
