use Rattle.std.proofs.Common.{length}
use Rattle.reg_lint.proofs.WordLemmas.{Goes}
use Rattle.reg_lint.proofs.words.Words.hear_all.Given as goal

abbrev pub invariant-loop-claim : goal.invariant-loop-claim
invariant-loop-claim l = Goes l.initial.self l.self l.claims l.rest

abbrev pub decreases-loop-claim : goal.decreases-loop-claim
decreases-loop-claim l = length l.rest
