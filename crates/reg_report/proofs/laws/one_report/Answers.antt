use Rattle.std.proofs.Common.{sym, ◌∙◌}
use Rattle.reg_report.proofs.ReportLemmas.{one_entries, one_conflicts, one_gaps}
use Rattle.reg_report.proofs.laws.one_report.Goals as goal

pub returns : goal.returns
returns c = record {
  entries = one_entries;
  conflicts = one_conflicts;
  awaited = λ x text other h k. h ∙ sym k;
  gaps = one_gaps;
  operations = λ x text other h k. h ∙ sym k;
}
