use Rattle.html_page.specs.Places.{Content}
use Rattle.html_page.proofs.PlaceLemmas.{same_tags}
use Rattle.html_page.proofs.laws.tags_are_of_markup.Goals as goal

pub returns : goal.returns
returns c = λ pieces last e. (same_tags pieces Content last e).0
