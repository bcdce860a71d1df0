use Rattle.reg_desk.proofs.AfterRetiring.{by_settling}
use Rattle.reg_desk.proofs.SettledTwice.{least_stays}
use Rattle.reg_desk.proofs.laws.the_least_stays.Goals as goal

pub returns : goal.returns
returns c x y both xs ys z replica other note remark ids others made more one ix iy j same doubles d doubles_y d_y jz there stands least =
    least_stays x y both ix iy j same xs ys z ids others doubles (by_settling x xs replica note ids made d) doubles_y (by_settling y ys other remark others more d_y) jz one there stands least
