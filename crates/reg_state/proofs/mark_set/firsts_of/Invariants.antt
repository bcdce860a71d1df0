use Rattle.std.proofs.Common.{◌≡◌, ◌++◌, None, length}
use Rattle.reg_state.specs.MarkSets.{firsts}
use Rattle.reg_state.proofs.mark_set.firsts_of.Given as goal

abbrev pub invariant-loop-mark : goal.invariant-loop-mark
invariant-loop-mark l = l.made.items ++ firsts l.last l.rest ≡ firsts None l.sorted

abbrev pub decreases-loop-mark : goal.decreases-loop-mark
decreases-loop-mark l = length l.rest
