use Rattle.std.proofs.Common.{List, length}
use Rattle.reg_import.specs.declared.standing_entry.StandingEntry.{StandingEntry}
use Rattle.reg_import.specs.Known.{by_key}
use Rattle.reg_import.specs.Index.{Indexes}
use Rattle.reg_import.proofs.KnownLemmas.{KnowsAll}
use Rattle.reg_import.proofs.index.index_of_rows.Given as goal

abbrev pub invariant-loop-row : goal.invariant-loop-row
invariant-loop-row l = (es : List StandingEntry) × KnowsAll l.rows l.rest es × Indexes l.index (by_key es)

abbrev pub decreases-loop-row : goal.decreases-loop-row
decreases-loop-row l = length l.rest
