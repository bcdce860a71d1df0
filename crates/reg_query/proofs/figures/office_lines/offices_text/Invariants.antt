use Rattle.std.proofs.Common.{◌≡◌, take}
use Rattle.reg_report.specs.Lines.{sheet_of, sheet_text, IsReady}
use Rattle.reg_query.specs.Offices.{offices_header, office_fields}
use Rattle.reg_query.proofs.figures.office_lines.offices_text.Given as goal

abbrev pub invariant-loop-office : goal.invariant-loop-office
invariant-loop-office l = IsReady l.wtr × (sheet_text l.wtr ≡ sheet_of offices_header office_fields (take l.office-index l.offices))
