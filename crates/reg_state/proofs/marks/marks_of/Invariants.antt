use Rattle.std.proofs.Common.{◌≡◌, ◌++◌, length}
use Rattle.reg_state.specs.Marks.{marks_of}
use Rattle.reg_state.proofs.marks.marks_of.Given as goal

abbrev pub invariant-loop-rest : goal.invariant-loop-rest
invariant-loop-rest l = l.marks.items ++ marks_of l.rest ≡ marks_of l.ops

abbrev pub decreases-loop-rest : goal.decreases-loop-rest
decreases-loop-rest l = length l.rest
