use Rattle.std.proofs.Common.{length}
use Rattle.reg_import.specs.Imports.{any_entry}
use Rattle.reg_import.proofs.LeastLemmas.{IsLeastBehind}
use Rattle.reg_import.proofs.least.least_of_all.Given as goal

abbrev pub invariant-loop-entry : goal.invariant-loop-entry
invariant-loop-entry l = IsLeastBehind any_entry l.entries l.rest l.best

abbrev pub decreases-loop-entry : goal.decreases-loop-entry
decreases-loop-entry l = length l.rest
