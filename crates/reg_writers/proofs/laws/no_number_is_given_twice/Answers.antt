use Rattle.reg_writers.proofs.Desks.{given_once, desk_always}
use Rattle.reg_writers.proofs.laws.no_number_is_given_twice.Goals as goal

pub returns : goal.returns
returns g = λ o reads change from events x xs p q j k n. given_once o from _ (desk_always o reads change from events x xs) p q j k n
