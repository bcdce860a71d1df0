use Rattle.std.proofs.Common.{◌≡◌, List, length, map}
use Rattle.crs_said.specs.Claims.{claim_seen}
use Rattle.reg_sense.specs.Claimants.{Voice, first_told}
use Rattle.reg_sense.specs.Most.{all_claims, odd_told}
use Rattle.reg_sense.specs.Tallies.{HasTallies, HasMost}
use Rattle.reg_sense.proofs.most.first_odd.Given as goal

abbrev pub invariant-loop-claim : goal.invariant-loop-claim
invariant-loop-claim l = (vs : List Voice) → HasTallies l.tallies 0 vs → HasMost vs l.best (all_claims vs) → first_told (odd_told vs) (map claim_seen l.claims) ≡ first_told (odd_told vs) (map claim_seen l.rest)

abbrev pub decreases-loop-claim : goal.decreases-loop-claim
decreases-loop-claim l = length l.rest
