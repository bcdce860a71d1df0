-- The name of the fault of a report, and its place.
use Rattle.std.specs.Prelude.{ℕ, List, Option, Some, None, codes}
use Rattle.reg_report.specs.declared.writing.ReportFault.{ReportFault}
use Rattle.reg_report.specs.declared.writing.ReportFault.TheVariants as report

-- a report that was not completely written
abbrev pub report_name : ReportFault → List ℕ
report_name (report.WriteFailed at) = codes "WriteFailed"
report_name report.Memory = codes "Memory"

abbrev pub report_place : ReportFault → Option ℕ
report_place (report.WriteFailed at) = Some at
report_place report.Memory = None
