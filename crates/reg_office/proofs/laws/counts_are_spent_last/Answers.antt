use Rattle.reg_office.proofs.LawLemmas.{spent_last}
use Rattle.reg_office.proofs.laws.counts_are_spent_last.Goals as goal

pub returns : goal.returns
returns c = spent_last
