use Rattle.std.proofs.Common.{ℕ, List, ◌++◌, map, length}
use Rattle.reg_report.specs.Lines.{entries_header, IsEntryLine, AreLines, IsSheet, sheet_text, IsReady}
use Rattle.reg_report.specs.Seen.{row_seen}
use Rattle.reg_report.proofs.entry_lines.entries_text.Given as goal

abbrev pub invariant-loop-row : goal.invariant-loop-row
invariant-loop-row l = IsReady l.wtr
    × ((more : List ℕ) → AreLines IsEntryLine (map row_seen l.rest) more → IsSheet entries_header IsEntryLine (map row_seen l.rows) (sheet_text l.wtr ++ more))

abbrev pub decreases-loop-row : goal.decreases-loop-row
decreases-loop-row l = length l.rest
