use Rattle.reg_tree.proofs.Neighbours.{NeighboursAgree}
use Rattle.reg_tree.proofs.agreeing.neighbours_agree.Given as goal

abbrev pub invariant-loop-i : goal.invariant-loop-i
invariant-loop-i l = NeighboursAgree l.ops l.i
