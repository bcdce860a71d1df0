use Rattle.std.proofs.Common.{◌+◌, length}
use Rattle.reg_state.proofs.OutsideLemmas.{IsOn}
use Rattle.reg_state.proofs.seen_outside.RunWalk.next_run.Given as goal

abbrev pub invariant-loop-first : goal.invariant-loop-first
invariant-loop-first l = IsOn l.low l.lefts l.rights l.fn.self

abbrev pub decreases-loop-first : goal.decreases-loop-first
decreases-loop-first l = length l.lefts + length l.rights
