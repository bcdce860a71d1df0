use Rattle.std.proofs.Common.{length}
use Rattle.reg_desk.proofs.StatusLemmas.{Passed}
use Rattle.reg_desk.proofs.status.all_good.Given as goal

abbrev pub invariant-loop-look : goal.invariant-loop-look
invariant-loop-look l = Passed l.looks l.rest

abbrev pub decreases-loop-look : goal.decreases-loop-look
decreases-loop-look l = length l.rest
