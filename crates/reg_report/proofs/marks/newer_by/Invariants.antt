use Rattle.std.proofs.Common.{◌≡◌, map, take, Some}
use Rattle.reg_state.specs.declared.mark.MarkTarget.{MarkTarget}
use Rattle.reg_report.proofs.marks.newer_by.Given as goal

abbrev pub invariant-loop-mark : goal.invariant-loop-mark
invariant-loop-mark l = map (λ n. Some n) l.newer.items ≡ map (λ (m : MarkTarget). m.by) (take l.mark-index l.own)
