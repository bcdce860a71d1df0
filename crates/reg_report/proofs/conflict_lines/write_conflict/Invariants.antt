use Rattle.std.proofs.Common.{◌≡◌, ◌++◌, take}
use Rattle.std.specs.List.{flat_map}
use Rattle.csv.specs.Writing.{row_text, default_writer}
use Rattle.reg_report.specs.Lines.{contender_fields, sheet_text, IsReady}
use Rattle.reg_report.proofs.conflict_lines.write_conflict.Given as goal

abbrev pub invariant-loop-entry : goal.invariant-loop-entry
invariant-loop-entry l = IsReady l.wtr
    × (sheet_text l.wtr ≡ sheet_text l.initial.wtr ++ flat_map (λ i. row_text default_writer (contender_fields l.authority l.code i)) (take l.entry-index l.conflict.entries.items))
