use Rattle.std.proofs.Common.{◌≡◌, ◌++◌, List, length, map}
use Rattle.crs_said.specs.Claims.{Said, claim_seen}
use Rattle.reg_sense.specs.Claimants.{Voice, voice}
use Rattle.reg_sense.specs.Twins.{HasFirsts, HasPart}
use Rattle.reg_sense.proofs.twins.put_words.Given as goal

abbrev pub invariant-loop-claim : goal.invariant-loop-claim
invariant-loop-claim l = (done : List Said) × (map claim_seen l.claimant.claims.items ≡ map claim_seen l.rest ++ done)
    × ((vs : List Voice) → HasFirsts l.initial.firsts vs → HasPart l.firsts (voice l.claimant) done vs)

abbrev pub decreases-loop-claim : goal.decreases-loop-claim
decreases-loop-claim l = length l.rest
