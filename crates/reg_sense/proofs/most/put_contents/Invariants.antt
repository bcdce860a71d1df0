use Rattle.std.proofs.Common.{◌≡◌, ◌++◌, List, length, map}
use Rattle.crs_said.specs.Claims.{Said, claim_seen}
use Rattle.reg_sense.specs.Claimants.{Voice}
use Rattle.reg_sense.specs.Tallies.{HasTallies, HasMost}
use Rattle.reg_sense.proofs.most.put_contents.Given as goal

abbrev pub invariant-loop-claim : goal.invariant-loop-claim
invariant-loop-claim l = (done : List Said) × (map claim_seen l.claims ≡ map claim_seen l.rest ++ done)
    × ((vs : List Voice) (xs : List Said) → HasTallies l.tallies 0 vs → HasMost vs l.initial.best xs → HasMost vs l.best (done ++ xs))

abbrev pub decreases-loop-claim : goal.decreases-loop-claim
decreases-loop-claim l = length l.rest
