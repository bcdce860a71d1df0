use Rattle.html_page.proofs.EscapedLemmas.{inert, read}
use Rattle.html_page.proofs.laws.texts_stay_texts.Goals as goal

pub returns : goal.returns
returns c = record { inert = inert; read = read }
