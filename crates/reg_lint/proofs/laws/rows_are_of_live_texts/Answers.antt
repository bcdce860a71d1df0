use Rattle.reg_lint.proofs.LawLemmas.{rows_told}
use Rattle.reg_lint.proofs.laws.rows_are_of_live_texts.Goals as goal

pub returns : goal.returns
returns c = rows_told
