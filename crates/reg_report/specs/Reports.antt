-- Reports.
use Rattle.std.specs.Prelude.{◌≡◌, ℕ, List, filter}
use Rattle.reg_op.specs.Set as set
use Rattle.reg_op.specs.Contents.{Content}
use Rattle.reg_op.specs.Ids.{Id, is_same}
use Rattle.reg_op.specs.Rows.{Row, rows, awaited}
use Rattle.byte_io.specs.Device.{SinkState}
use Rattle.byte_io.specs.Whole.{WritesAll, IsCutAt}
use Rattle.reg_report.specs.declared.gap.Gap.{Gap}
use Rattle.reg_report.specs.declared.writing.ReportKind.{ReportKind}
use Rattle.reg_report.specs.declared.writing.ReportKind.TheVariants.{Entries, Conflicts, Awaited, Gaps}
use Rattle.reg_report.specs.declared.writing.ReportFault.{ReportFault}
use Rattle.reg_report.specs.declared.writing.ReportFault.TheVariants as fault
use Rattle.reg_report.specs.Gaps.{AreGaps}
use Rattle.reg_report.specs.Conflicts.{Contested, AreConflicts}
use Rattle.reg_report.specs.Lines.{sheet_of, IsSheet, awaited_header, awaited_fields, gaps_header, gap_fields, entries_header, IsEntryLine, conflicts_sheet, ops_header, op_fields}

abbrev pub IsReport : ReportKind → Content → List ℕ → Type 0
IsReport Entries x text = IsSheet entries_header IsEntryLine (rows x.ops) text
IsReport Conflicts x text = (cs : List Contested) × AreConflicts (rows x.ops) cs × (text ≡ conflicts_sheet cs)
IsReport Awaited x text = text ≡ sheet_of awaited_header awaited_fields (set.items (awaited x.ops))
IsReport Gaps x text = (gaps : List Gap) × AreGaps x.seen gaps × (text ≡ sheet_of gaps_header gap_fields gaps)

-- the rows of one entry
abbrev pub rows_of : Id → Content → List Row
rows_of entry x = filter (λ (r : Row). is_same entry r.entry) (rows x.ops)

-- the line of one entry, after the header
abbrev pub IsEntryReport : Id → Content → List ℕ → Type 0
IsEntryReport entry x text = IsSheet entries_header IsEntryLine (rows_of entry x) text

abbrev pub IsOpsReport : Content → List ℕ → Type 0
IsOpsReport x text = text ≡ sheet_of ops_header op_fields (set.items x.ops)

-- a text that is a report was completely written
abbrev pub Reports : (List ℕ → Type 0) → SinkState → SinkState → Type 0
Reports IsText old new = (text : List ℕ) × IsText text × WritesAll text old new

-- exactly the first n bytes of such a text were written, or nothing was
abbrev pub IsReportFault : (List ℕ → Type 0) → SinkState → SinkState → ReportFault → Type 0
IsReportFault IsText old new (fault.WriteFailed n) = (text : List ℕ) × IsText text × IsCutAt n text old new
IsReportFault IsText old new fault.Memory = new ≡ old
