use Rattle.reg_desk.proofs.GivenLemmas.{unmade_as_all}
use Rattle.reg_desk.proofs.laws.the_first_refused_text_is_told.Goals as goal

pub returns : goal.returns
returns c = unmade_as_all
