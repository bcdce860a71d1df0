use Rattle.std.proofs.Common.{◌≡◌, ◌<◌, ◌+◌, ◌^◌, ◌++◌, suc, List, length, map}
use Rattle.crs_said.specs.Claims.{Said, claim_seen}
use Rattle.reg_sense.specs.Claimants.{Voice, voice}
use Rattle.reg_sense.specs.Tallies.{HasTallies, HasPart}
use Rattle.reg_sense.proofs.tally.put_claims.Given as goal

abbrev pub invariant-loop-claim : goal.invariant-loop-claim
invariant-loop-claim l = (done : List Said) × (map claim_seen l.claimant.claims.items ≡ map claim_seen l.rest ++ done)
    × ((vs : List Voice) → length vs + 1 < 2 ^ 64 → HasTallies l.initial.tallies (suc l.place) vs → HasPart l.tallies l.place (voice l.claimant) done vs)

abbrev pub decreases-loop-claim : goal.decreases-loop-claim
decreases-loop-claim l = length l.rest
