use Rattle.reg_report.proofs.EntryLemmas.{row_is_entered, row_is_spelled}
use Rattle.reg_report.proofs.laws.texts_are_read.Goals as goal

pub returns : goal.returns
returns c = record {
  entered = λ x. row_is_entered x.ops;
  spelled = λ x r is. row_is_spelled x is r;
}
