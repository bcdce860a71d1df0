use Rattle.std.proofs.Common.{◌≡◌, take}
use Rattle.reg_report.specs.Lines.{gaps_header, gap_fields, sheet_of, sheet_text, IsReady}
use Rattle.reg_report.proofs.lines.gaps_text.Given as goal

abbrev pub invariant-loop-gap : goal.invariant-loop-gap
invariant-loop-gap l = IsReady l.wtr × (sheet_text l.wtr ≡ sheet_of gaps_header gap_fields (take l.gap-index l.gaps))
