use Rattle.reg_lint.proofs.LawLemmas.{same_rows}
use Rattle.reg_lint.proofs.laws.same_texts_have_the_same_rows.Goals as goal

pub returns : goal.returns
returns c = same_rows
