use Rattle.std.proofs.Common.{◌≡◌, None, drop}
use Rattle.reg_office.specs.Making.{numbered, objections}
use Rattle.reg_supersede.specs.Lists.{bodies_of}
use Rattle.reg_supersede.specs.Effects.{task_of, after, next, HasPairs}
use Rattle.reg_supersede.proofs.LackingLemmas.{Leads}
use Rattle.reg_supersede.proofs.check.lacking.Given as goal

abbrev pub invariant-loop-pair : goal.invariant-loop-pair
invariant-loop-pair l =
    Leads (after (task_of l.options) l.options.register.now l.effects.bodies.items).ops l.pairs (drop l.pair-index l.pairs) l.added.list.items
    × (objections (after (task_of l.options) l.options.register.now l.effects.bodies.items) (numbered l.options.replica (next (task_of l.options) l.options.register.now l.effects.bodies.items) l.options.note.now (bodies_of l.added.list.items)) ≡ None)
    × HasPairs l.added.set l.added.list.items
