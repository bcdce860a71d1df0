use Rattle.reg_lint.proofs.PermutedLemmas.{same_rows_by}
use Rattle.reg_lint.proofs.laws.same_texts_have_the_same_rows_by_every_rule.Goals as goal

pub returns : goal.returns
returns c = same_rows_by
