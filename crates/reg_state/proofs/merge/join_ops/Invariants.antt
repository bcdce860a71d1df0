use Rattle.std.proofs.Common.{◌+◌, length}
use Rattle.reg_state.specs.Merge.{IsMerging, stays}
use Rattle.reg_state.proofs.merge.join_ops.Given as goal

abbrev pub invariant-loop-a : goal.invariant-loop-a
invariant-loop-a l = IsMerging (stays l.left_marks l.right_marks) l.out.items l.lefts l.rights l.left l.right

abbrev pub decreases-loop-a : goal.decreases-loop-a
decreases-loop-a l = length l.lefts + length l.rights
