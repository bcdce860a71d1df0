use Rattle.reg_writers.proofs.Kept.{always}
use Rattle.reg_writers.proofs.Left.{given_on}
use Rattle.reg_writers.proofs.Numbers.{many, many_add, gave_many}
use Rattle.reg_writers.proofs.laws.ids_are_kept.Goals as goal

pub returns : goal.returns
returns g e = λ c add x events more k i given. given_on (many c) (many_add c add) _ more k i (always (many c) (many_add c add) x events) (gave_many c k _ i given)
