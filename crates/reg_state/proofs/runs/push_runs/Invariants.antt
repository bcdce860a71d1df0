use Rattle.std.proofs.Common.{length}
use Rattle.reg_state.proofs.RunLemmas.{IsPushing}
use Rattle.reg_state.proofs.runs.push_runs.Given as goal

abbrev pub invariant-loop-run : goal.invariant-loop-run
invariant-loop-run l = IsPushing l.out.items l.rest l.fn.out.items l.runs

abbrev pub decreases-loop-run : goal.decreases-loop-run
decreases-loop-run l = length l.rest
