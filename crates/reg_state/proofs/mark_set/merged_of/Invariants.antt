use Rattle.std.proofs.Common.{◌+◌, length}
use Rattle.reg_state.proofs.MarkMergeLemmas.{IsMerging}
use Rattle.reg_state.proofs.mark_set.merged_of.Given as goal

abbrev pub invariant-loop-a : goal.invariant-loop-a
invariant-loop-a l = IsMerging l.made.items l.lefts l.rights l.left l.right

abbrev pub decreases-loop-a : goal.decreases-loop-a
decreases-loop-a l = length l.lefts + length l.rights
