use Rattle.std.proofs.Common.{◌≡◌, ◌++◌, take}
use Rattle.std.specs.List.{flat_map}
use Rattle.csv.specs.Writing.{row_text, default_writer}
use Rattle.reg_report.specs.Contenders.{conflict_seen}
use Rattle.reg_report.specs.Lines.{conflicts_header, conflict_lines, rows_text, sheet_text, IsReady}
use Rattle.reg_report.proofs.conflict_lines.conflicts_text.Given as goal

abbrev pub invariant-loop-conflict : goal.invariant-loop-conflict
invariant-loop-conflict l = IsReady l.wtr
    × (sheet_text l.wtr ≡ row_text default_writer conflicts_header ++ flat_map (λ c. rows_text (conflict_lines (conflict_seen c))) (take l.conflict-index l.conflicts))
