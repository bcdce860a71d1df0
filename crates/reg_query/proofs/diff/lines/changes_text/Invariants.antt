use Rattle.std.proofs.Common.{drop}
use Rattle.reg_report.specs.Lines.{sheet_text, IsReady}
use Rattle.reg_query.proofs.SheetLemmas.{Completes}
use Rattle.reg_query.proofs.diff.lines.changes_text.Given as goal

abbrev pub invariant-loop-change : goal.invariant-loop-change
invariant-loop-change l = IsReady l.wtr × Completes l.changes (drop l.change-index l.changes) (sheet_text l.wtr)
