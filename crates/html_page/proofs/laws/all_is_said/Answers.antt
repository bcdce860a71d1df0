use Rattle.html_page.proofs.SaidLemmas.{all_said}
use Rattle.html_page.proofs.laws.all_is_said.Goals as goal

pub returns : goal.returns
returns c = all_said
