use Rattle.std.proofs.Common.{length}
use Rattle.reg_lint.proofs.DisputeLemmas.{Hearing}
use Rattle.reg_lint.proofs.disputes.disputes_of.Given as goal

abbrev pub invariant-loop-one : goal.invariant-loop-one
invariant-loop-one l = Hearing l.kept l.rest l.made

abbrev pub decreases-loop-one : goal.decreases-loop-one
decreases-loop-one l = length l.rest
