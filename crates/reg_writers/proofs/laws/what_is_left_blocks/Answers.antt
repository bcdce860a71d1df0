use Rattle.reg_writers.proofs.Kept.{always}
use Rattle.reg_writers.proofs.Left.{left_stays, any_of, any_adds}
use Rattle.reg_writers.proofs.laws.what_is_left_blocks.Goals as goal

pub returns : goal.returns
returns g = λ change x events more n l none. left_stays (any_of change) (any_adds change) more _ n (always (any_of change) (any_adds change) x events) l none
