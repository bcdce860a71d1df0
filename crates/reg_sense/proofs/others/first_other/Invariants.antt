use Rattle.std.proofs.Common.{◌≡◌, List, length, map}
use Rattle.crs_said.specs.Claims.{claim_seen}
use Rattle.reg_sense.specs.Claimants.{Voice, first_told}
use Rattle.reg_sense.specs.Others.{HasSides, other_told}
use Rattle.reg_sense.proofs.others.first_other.Given as goal

abbrev pub invariant-loop-claim : goal.invariant-loop-claim
invariant-loop-claim l = (vs : List Voice) → HasSides l.sides vs
    → first_told (other_told vs) (map claim_seen l.claimant.claims.items) ≡ first_told (other_told vs) (map claim_seen l.rest)

abbrev pub decreases-loop-claim : goal.decreases-loop-claim
decreases-loop-claim l = length l.rest
