use Rattle.std.proofs.Common.{◌≡◌, ◌++◌, ◌∷◌, length}
use Rattle.reg_take.specs.AtOnce.{registers_in}
use Rattle.reg_take.proofs.at_once.with_registers.Given as goal

abbrev pub invariant-loop-arrival : goal.invariant-loop-arrival
invariant-loop-arrival l = l.made.items ++ registers_in l.rest ≡ l.register ∷ registers_in l.arrivals

abbrev pub decreases-loop-arrival : goal.decreases-loop-arrival
decreases-loop-arrival l = length l.rest
