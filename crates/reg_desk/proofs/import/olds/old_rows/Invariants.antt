use Rattle.std.proofs.Common.{List, length, map}
use Rattle.reg_report.specs.Seen.{row_seen}
use Rattle.reg_desk.proofs.OldRows.{RowsSoFar}
use Rattle.reg_desk.proofs.import.olds.old_rows.Given as goal

abbrev pub invariant-loop-link : goal.invariant-loop-link
invariant-loop-link l = RowsSoFar (map row_seen l.rows) l.links l.rest (map (λ r. row_seen r.now) l.made.items)

abbrev pub decreases-loop-link : goal.decreases-loop-link
decreases-loop-link l = length l.rest
