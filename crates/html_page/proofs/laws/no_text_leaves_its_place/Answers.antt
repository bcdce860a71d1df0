use Rattle.html_page.proofs.PageLemmas.{places, same}
use Rattle.html_page.proofs.laws.no_text_leaves_its_place.Goals as goal

pub returns : goal.returns
returns c = record { places = places; tags = same }
