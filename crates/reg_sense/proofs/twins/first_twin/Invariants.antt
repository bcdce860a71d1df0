use Rattle.std.proofs.Common.{◌≡◌, List, length, map}
use Rattle.crs_said.specs.Claims.{claim_seen}
use Rattle.reg_sense.specs.Claimants.{Voice, voice, first_told}
use Rattle.reg_sense.specs.Twins.{HasFirsts, twin_told}
use Rattle.reg_sense.proofs.twins.first_twin.Given as goal

abbrev pub invariant-loop-claim : goal.invariant-loop-claim
invariant-loop-claim l = (vs : List Voice) → HasFirsts l.firsts vs
    → first_told (twin_told vs (voice l.claimant)) (map claim_seen l.claimant.claims.items) ≡ first_told (twin_told vs (voice l.claimant)) (map claim_seen l.rest)

abbrev pub decreases-loop-claim : goal.decreases-loop-claim
decreases-loop-claim l = length l.rest
