use Rattle.html_page.proofs.TextLemmas.{in_order}
use Rattle.html_page.proofs.laws.texts_are_in_order.Goals as goal

pub returns : goal.returns
returns c = in_order
