use Rattle.std.proofs.Common.{◌≡◌, ◌++◌, length}
use Rattle.reg_take.specs.AtOnce.{pieces_in}
use Rattle.reg_take.proofs.at_once.copies_of_pieces.Given as goal

abbrev pub invariant-loop-arrival : goal.invariant-loop-arrival
invariant-loop-arrival l = l.made.items ++ pieces_in l.rest ≡ pieces_in l.arrivals

abbrev pub decreases-loop-arrival : goal.decreases-loop-arrival
decreases-loop-arrival l = length l.rest
