use Rattle.reg_lint.proofs.ToldLemmas.{same_in_order}
use Rattle.reg_lint.proofs.laws.same_order_has_the_same_sentences.Goals as goal

pub returns : goal.returns
returns c = same_in_order
