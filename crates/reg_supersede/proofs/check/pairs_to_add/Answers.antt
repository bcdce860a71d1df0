use Rattle.std.proofs.Common.{nat_lt, ◌+◌, List, length, sym, ap, ◌∙◌}
use Rattle.reg_office.specs.Making.{greatest}
use Rattle.reg_supersede.specs.declared.pair.Pair.{Pair}
use Rattle.reg_supersede.specs.Effects.{task_of}
use Rattle.reg_supersede.proofs.LackingLemmas.{note_here, spent_here, can_here}
use Rattle.reg_supersede.proofs.check.pairs_to_add.Goals as goal

pub returns-in-Some-clause-fault : goal.returns-in-Some-clause-fault
returns-in-Some-clause-fault c = note_here (task_of c.args.options.now) c.args.options.now.register.now c.args.effects.now.bodies.items _ c.in-Some.fault (sym c.note_fault.ensures ∙ c.in-Some.is)

pub returns-then-is_spent-clause-fault : goal.returns-then-is_spent-clause-fault
returns-then-is_spent-clause-fault c =
    spent_here (task_of c.args.options.now) c.args.options.now.register.now c.args.effects.now.bodies.items _ c.in-Ok.lacking.items c.in-Ok.ensures.ok.0 c.requires.made (sym c.note_fault.ensures ∙ c.in_default.is) c.in-Ok.ensures.ok.1
    (ap (λ (ps : List Pair). nat_lt 4294967295 (greatest c.args.options.now.replica c.args.options.now.register.now.seen + length c.args.effects.now.bodies.items + length ps)) (sym c.deref.ensures.value) ∙ sym c.if-is_spent.ensures)

pub returns-clause-allowed : goal.returns-clause-allowed
returns-clause-allowed c =
    can_here (task_of c.args.options.now) c.args.options.now.register.now c.args.effects.now.bodies.items c.in-Ok.lacking.items c.in-Ok.lacking.items c.requires.made (sym c.note_fault.ensures ∙ c.in_default.is) c.in-Ok.ensures.ok.1
    (ap (λ (ps : List Pair). nat_lt 4294967295 (greatest c.args.options.now.replica c.args.options.now.register.now.seen + length c.args.effects.now.bodies.items + length ps)) (sym c.deref.ensures.value) ∙ sym c.if-is_spent.ensures)
