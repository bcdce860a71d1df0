use Rattle.reg_office.proofs.LawLemmas.{long_first}
use Rattle.reg_office.proofs.laws.long_notes_are_refused_first.Goals as goal

pub returns : goal.returns
returns c = long_first
