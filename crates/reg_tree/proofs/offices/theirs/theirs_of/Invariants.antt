use Rattle.std.proofs.Common.{◌≡◌, ◌++◌, length}
use Rattle.reg_tree.specs.Offices.{listed}
use Rattle.reg_tree.proofs.offices.theirs.theirs_of.Given as goal

abbrev pub invariant-loop-rest : goal.invariant-loop-rest
invariant-loop-rest l = l.made.items ++ listed l.offices l.rest ≡ listed l.offices l.ops

abbrev pub decreases-loop-rest : goal.decreases-loop-rest
decreases-loop-rest l = length l.rest
