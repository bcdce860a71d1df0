use Rattle.html_page.proofs.WordLemmas.{compared_is}
use Rattle.html_page.proofs.laws.words_are_the_text.Goals as goal

pub returns : goal.returns
returns c = compared_is
