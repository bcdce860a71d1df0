use Rattle.std.proofs.Common.{◌≡◌, ◌++◌, length}
use Rattle.reg_tree.specs.Over.{known}
use Rattle.reg_tree.proofs.undone.over.known.Given as goal

abbrev pub invariant-loop-rest : goal.invariant-loop-rest
invariant-loop-rest l = l.made.items ++ known l.seen l.rest ≡ known l.seen l.ops

abbrev pub decreases-loop-rest : goal.decreases-loop-rest
decreases-loop-rest l = length l.rest
