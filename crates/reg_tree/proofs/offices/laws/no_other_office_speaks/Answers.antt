use Rattle.reg_tree.proofs.OfficeLemmas.{gains_operation, gains_number}
use Rattle.reg_tree.proofs.offices.laws.no_other_office_speaks.Goals as goal

pub returns : goal.returns
returns c = record { operations = gains_operation; numbers = gains_number }
