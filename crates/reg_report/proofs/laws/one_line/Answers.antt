use Rattle.reg_report.proofs.EntryLemmas.{row_of_entry, no_row, line_of_row, one_entry_report}
use Rattle.reg_report.proofs.laws.one_line.Goals as goal

pub returns : goal.returns
returns c = record {
  row = λ x e is. row_of_entry x is e;
  no_row = no_row;
  line = line_of_row;
  report = λ x e. one_entry_report e x;
}
