use Rattle.std.proofs.Common.{ap, sym, ◌∙◌}
use Rattle.reg_op.specs.Rows.{rows}
use Rattle.reg_report.specs.Lines.{conflicts_header, sheet_of}
use Rattle.reg_disorder.specs.Reports.{keyed_fields}
use Rattle.reg_disorder.proofs.AmissLemmas.{one_list, one_count}
use Rattle.reg_disorder.proofs.laws.one_report.Goals as goal

pub returns : goal.returns
returns c = record {
  list = one_list;
  count = one_count;
  text = λ way x text other a b. a.2 ∙ ap (sheet_of conflicts_header keyed_fields) (one_list way (rows x.ops) a.0 b.0 a.1 b.1) ∙ sym b.2;
}
