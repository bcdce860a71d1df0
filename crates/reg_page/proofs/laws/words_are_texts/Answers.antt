use Rattle.reg_page.proofs.SideLemmas.{are_sides}
use Rattle.reg_page.proofs.laws.words_are_texts.Goals as goal

pub returns : goal.returns
returns c = are_sides
