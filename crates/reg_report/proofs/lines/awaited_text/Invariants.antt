use Rattle.std.proofs.Common.{◌≡◌, take}
use Rattle.reg_report.specs.Lines.{awaited_header, awaited_fields, sheet_of, sheet_text, IsReady}
use Rattle.reg_report.proofs.lines.awaited_text.Given as goal

abbrev pub invariant-loop-id : goal.invariant-loop-id
invariant-loop-id l = IsReady l.wtr × (sheet_text l.wtr ≡ sheet_of awaited_header awaited_fields (take l.id-index l.ids))
