use Rattle.html_page.proofs.HiddenLemmas.{nothing_hidden}
use Rattle.html_page.proofs.CharacterLemmas.{no_character}
use Rattle.html_page.proofs.laws.nothing_hidden_is_shown.Goals as goal

pub returns : goal.returns
returns c = record { bytes = nothing_hidden; characters = no_character }
