use Rattle.std.proofs.Common.{◌≡◌, ◌++◌, List, drop, map}
use Rattle.reg_op.specs.Rows.{Row}
use Rattle.reg_report.specs.Seen.{row_seen}
use Rattle.reg_import.specs.Lines.{IsEntryLine}
use Rattle.reg_import.specs.Listing.{WritesLines}
use Rattle.reg_import.proofs.listing.write_entries.Given as goal

abbrev pub invariant-loop-row : goal.invariant-loop-row
invariant-loop-row l = (done : List Row) × (map (λ r. row_seen r.now) l.rows ≡ done ++ map (λ r. row_seen r.now) (drop l.row-index l.rows)) × WritesLines (IsEntryLine l.action) done l.initial.wtr l.wtr
