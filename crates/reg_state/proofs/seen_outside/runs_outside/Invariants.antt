use Rattle.reg_state.specs.Walks.{lefts_of, spans_of}
use Rattle.reg_state.proofs.OutsideLemmas.{IsGoing}
use Rattle.reg_state.proofs.seen_outside.runs_outside.Given as goal

abbrev pub invariant-loop-run : goal.invariant-loop-run
invariant-loop-run l = IsGoing l.out.items l.walk l.left l.right

abbrev pub decreases-loop-run : goal.decreases-loop-run
decreases-loop-run l = spans_of (lefts_of l.walk)
