use Rattle.std.proofs.Common.{◌≡◌, ◌-◌, length}
use Rattle.reg_state.specs.Walks.{spans_of}
use Rattle.reg_query.proofs.figures.counting.less.Given as goal

abbrev pub invariant-loop-run : goal.invariant-loop-run
invariant-loop-run l = l.left - spans_of l.rest ≡ l.number - spans_of l.runs

abbrev pub decreases-loop-run : goal.decreases-loop-run
decreases-loop-run l = length l.rest
