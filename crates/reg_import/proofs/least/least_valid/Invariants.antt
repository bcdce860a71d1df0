use Rattle.std.proofs.Common.{length}
use Rattle.reg_import.specs.Imports.{has_text_and_is_valid}
use Rattle.reg_import.proofs.LeastLemmas.{IsLeastBehind}
use Rattle.reg_import.proofs.least.least_valid.Given as goal

abbrev pub invariant-loop-entry : goal.invariant-loop-entry
invariant-loop-entry l = IsLeastBehind (has_text_and_is_valid l.text) l.entries l.rest l.best

abbrev pub decreases-loop-entry : goal.decreases-loop-entry
decreases-loop-entry l = length l.rest
