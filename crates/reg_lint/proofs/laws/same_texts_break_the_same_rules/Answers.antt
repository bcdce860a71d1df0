use Rattle.reg_lint.proofs.PermutedLemmas.{same_broken}
use Rattle.reg_lint.proofs.laws.same_texts_break_the_same_rules.Goals as goal

pub returns : goal.returns
returns c = same_broken
