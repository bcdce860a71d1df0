use Rattle.std.proofs.Common.{length}
use Rattle.reg_import.proofs.QuotedLemmas.{IsQuotedSoFar}
use Rattle.reg_import.proofs.quoted.quoted.Given as goal

abbrev pub invariant-loop-b : goal.invariant-loop-b
invariant-loop-b l = IsQuotedSoFar l.text.items l.marked l.rest l.bytes

abbrev pub decreases-loop-b : goal.decreases-loop-b
decreases-loop-b l = length l.rest
