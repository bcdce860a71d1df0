use Rattle.text_hidden.proofs.MarkLemmas.{none_hidden}
use Rattle.text_hidden.proofs.laws.marks_hide_nothing.Goals as goal

pub returns : goal.returns
returns c = none_hidden
