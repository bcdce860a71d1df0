use Rattle.std.proofs.Common.{◌+◌, length}
use Rattle.reg_state.specs.Runs.{IsJoining}
use Rattle.reg_state.proofs.runs.join_runs.Given as goal

abbrev pub invariant-loop-a : goal.invariant-loop-a
invariant-loop-a l = IsJoining l.out.items l.lefts l.rights l.left l.right

abbrev pub decreases-loop-a : goal.decreases-loop-a
decreases-loop-a l = length l.lefts + length l.rights
