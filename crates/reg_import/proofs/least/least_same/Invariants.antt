use Rattle.std.proofs.Common.{length}
use Rattle.reg_import.specs.Imports.{has_text}
use Rattle.reg_import.proofs.LeastLemmas.{IsLeastBehind}
use Rattle.reg_import.proofs.least.least_same.Given as goal

abbrev pub invariant-loop-entry : goal.invariant-loop-entry
invariant-loop-entry l = IsLeastBehind (has_text l.text) l.entries l.rest l.best

abbrev pub decreases-loop-entry : goal.decreases-loop-entry
decreases-loop-entry l = length l.rest
