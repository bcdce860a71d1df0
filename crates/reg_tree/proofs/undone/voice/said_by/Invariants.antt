use Rattle.std.proofs.Common.{◌≡◌, take}
use Rattle.std.specs.List.{list_any}
use Rattle.reg_op.specs.Operations.{Op}
use Rattle.reg_report.specs.Conflicts.{KeyBytes}
use Rattle.reg_tree.specs.Sayings.{Keys, Saying, tells}
use Rattle.reg_tree.specs.Voices.{AreRight, has_saying}
use Rattle.reg_tree.proofs.undone.voice.said_by.Given as goal

abbrev pub invariant-loop-op : goal.invariant-loop-op
invariant-loop-op l = (has : Keys KeyBytes) → AreRight has l.register.ops → (q : Saying KeyBytes) → has_saying l.said q ≡ list_any (λ (o : Op). tells has l.register.ops q o.body) (take l.op-index l.ops)
