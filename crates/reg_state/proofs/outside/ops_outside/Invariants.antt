use Rattle.std.proofs.Common.{◌≡◌, ◌++◌, length}
use Rattle.reg_state.specs.Pieces.{ops_outside}
use Rattle.reg_state.proofs.outside.ops_outside.Given as goal

abbrev pub invariant-loop-rest : goal.invariant-loop-rest
invariant-loop-rest l = l.out.items ++ ops_outside l.basis l.rest ≡ ops_outside l.basis l.ops

abbrev pub decreases-loop-rest : goal.decreases-loop-rest
decreases-loop-rest l = length l.rest
