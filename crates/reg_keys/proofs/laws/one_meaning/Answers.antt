use Rattle.reg_keys.proofs.LawLemmas as law
use Rattle.reg_keys.proofs.laws.one_meaning.Goals as goal

pub returns : goal.returns
returns c = record { entries = law.one_meaning; objection = law.no_objections }
