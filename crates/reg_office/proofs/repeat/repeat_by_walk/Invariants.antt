use Rattle.reg_office.proofs.RepeatLemmas.{Fresh}
use Rattle.reg_office.proofs.repeat.repeat_by_walk.Given as goal

abbrev pub invariant-loop-at : goal.invariant-loop-at
invariant-loop-at l = Fresh l.named l.at
