use Rattle.std.proofs.Common.{◌≡◌, ◌++◌, List, length, map}
use Rattle.reg_op.specs.Rows.{Row}
use Rattle.reg_report.specs.Conflicts.{KeyBytes}
use Rattle.reg_report.specs.Seen.{row_seen}
use Rattle.reg_export.specs.Noted.{At, Holds, Tells}
use Rattle.reg_export.proofs.notes.notes_of.Given as goal

abbrev pub invariant-loop-row : goal.invariant-loop-row
invariant-loop-row l = (done : List Row) × (map row_seen l.rows ≡ done ++ map row_seen l.rest) × ((at : At) × Holds l.made at × ((k : KeyBytes) → Tells done k (at k)))

abbrev pub decreases-loop-row : goal.decreases-loop-row
decreases-loop-row l = length l.rest
