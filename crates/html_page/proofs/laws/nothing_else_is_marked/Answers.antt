use Rattle.html_page.proofs.MarkLemmas.{none_marked}
use Rattle.html_page.proofs.laws.nothing_else_is_marked.Goals as goal

pub returns : goal.returns
returns c = none_marked
