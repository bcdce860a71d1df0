use Rattle.reg_writers.proofs.Kept.{always}
use Rattle.reg_writers.proofs.Numbers.{many, many_add, gave_many}
use Rattle.reg_writers.proofs.laws.one_who_gave.Goals as goal

pub returns : goal.returns
returns g e = λ c add x events j k i gj gk. (always (many c) (many_add c add) x events).one j k i (gave_many c j _ i gj) (gave_many c k _ i gk)
