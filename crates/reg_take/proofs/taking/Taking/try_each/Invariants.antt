use Rattle.std.proofs.Common.{◌≡◌, length}
use Rattle.reg_take.specs.Taken.{Progress, Shows, each_tried}
use Rattle.reg_take.proofs.taking.Taking.try_each.Given as goal

-- trying the rest, from here, gives what trying all gives from the start
abbrev pub invariant-loop-one : goal.invariant-loop-one
invariant-loop-one l = (t : Progress) → Shows l.fn.self t → (now : Progress) × Shows l.taking now × (each_tried l.arrivals now l.rest ≡ each_tried l.arrivals t l.waiting)

abbrev pub decreases-loop-one : goal.decreases-loop-one
decreases-loop-one l = length l.rest
