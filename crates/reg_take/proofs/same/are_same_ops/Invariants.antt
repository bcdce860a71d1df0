use Rattle.std.proofs.Common.{◌≡◌, ◌↔◌, length}
use Rattle.reg_take.proofs.same.are_same_ops.Given as goal

abbrev pub invariant-loop-one : goal.invariant-loop-one
invariant-loop-one l = (l.left ≡ l.right) ↔ (l.lefts ≡ l.rights)

abbrev pub decreases-loop-one : goal.decreases-loop-one
decreases-loop-one l = length l.lefts
