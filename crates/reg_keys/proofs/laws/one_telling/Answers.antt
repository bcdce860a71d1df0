use Rattle.reg_keys.proofs.LawLemmas as law
use Rattle.reg_keys.proofs.laws.one_telling.Goals as goal

pub returns : goal.returns
returns c = record { entries = law.one_telling; untold = law.all_told_of }
