use Rattle.std.proofs.Common.{◌≡◌, ◌∷◌, map, take}
use Rattle.reg_report.specs.declared.contender.Contender.{Contender}
use Rattle.reg_report.proofs.conflict.entries_of.Given as goal

abbrev pub invariant-loop-other : goal.invariant-loop-other
invariant-loop-other l = l.entries.items ≡ map (λ (c : Contender). c.entry) (l.first ∷ take l.other-index l.others)
