use Rattle.reg_take.specs.Taken.{Progress, Shows}
use Rattle.reg_take.proofs.AgainLemmas.{Round}
use Rattle.reg_take.proofs.taking.Taking.try_again.Given as goal

abbrev pub invariant-loop-before : goal.invariant-loop-before
invariant-loop-before l = (t : Progress) → Shows l.fn.self t → Round l.arrivals t l.taking l.before

abbrev pub decreases-loop-before : goal.decreases-loop-before
decreases-loop-before l = l.before
