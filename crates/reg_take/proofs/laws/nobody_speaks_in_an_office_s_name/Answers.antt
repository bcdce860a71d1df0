use Rattle.reg_take.proofs.OwnLemmas.{admitted_has, takes_has}
use Rattle.reg_take.proofs.laws.nobody_speaks_in_an_office_s_name.Goals as goal

pub returns : goal.returns
returns c = record { admitted = admitted_has; taken = takes_has }
