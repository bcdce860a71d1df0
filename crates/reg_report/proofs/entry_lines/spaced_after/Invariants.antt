use Rattle.std.proofs.Common.{◌≡◌, ◌++◌, length}
use Rattle.reg_report.specs.Lines.{spaced_after}
use Rattle.reg_report.proofs.entry_lines.spaced_after.Given as goal

abbrev pub invariant-loop-id : goal.invariant-loop-id
invariant-loop-id l = l.text.items ++ spaced_after l.rest ≡ l.initial.text.items ++ spaced_after l.ids

abbrev pub decreases-loop-id : goal.decreases-loop-id
decreases-loop-id l = length l.rest
