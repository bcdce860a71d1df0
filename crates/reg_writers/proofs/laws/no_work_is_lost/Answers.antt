use Rattle.reg_writers.proofs.Kept.{always}
use Rattle.reg_writers.proofs.Left.{changes, any_of, any_adds}
use Rattle.reg_writers.proofs.laws.no_work_is_lost.Goals as goal

pub returns : goal.returns
returns g = λ change x events e. changes (any_of change) _ e (always (any_of change) (any_adds change) x events)
