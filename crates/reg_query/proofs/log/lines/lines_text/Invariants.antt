use Rattle.std.proofs.Common.{length}
use Rattle.reg_report.specs.Lines.{sheet_text, IsReady}
use Rattle.reg_query.proofs.LogLemmas.{Completes}
use Rattle.reg_query.proofs.log.lines.lines_text.Given as goal

abbrev pub invariant-loop-op : goal.invariant-loop-op
invariant-loop-op l = IsReady l.wtr × Completes l.ops l.rest (sheet_text l.wtr)

abbrev pub decreases-loop-op : goal.decreases-loop-op
decreases-loop-op l = length l.rest
