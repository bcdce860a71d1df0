use Rattle.std.proofs.Common.{◌≡◌, ◌++◌, List, length}
use Rattle.reg_import.specs.declared.standing_entry.StandingEntry.{StandingEntry}
use Rattle.reg_import.specs.Summary.{SumsUp}
use Rattle.reg_import.proofs.summary.Summary.of.Given as goal

abbrev pub invariant-loop-entry : goal.invariant-loop-entry
invariant-loop-entry l = (done : List StandingEntry) × (done ++ l.rest ≡ l.entries) × SumsUp l.summary done

abbrev pub decreases-loop-entry : goal.decreases-loop-entry
decreases-loop-entry l = length l.rest
