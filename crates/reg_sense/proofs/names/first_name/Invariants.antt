use Rattle.std.proofs.Common.{◌≡◌, ℕ, List, length, map}
use Rattle.crs_said.specs.Claims.{claim_seen}
use Rattle.reg_sense.specs.Claimants.{first_told}
use Rattle.reg_sense.specs.Names.{HasNames, name_told}
use Rattle.reg_sense.proofs.names.first_name.Given as goal

abbrev pub invariant-loop-claim : goal.invariant-loop-claim
invariant-loop-claim l = (names : List (List ℕ)) → HasNames l.set names → first_told (name_told names) (map claim_seen l.claims) ≡ first_told (name_told names) (map claim_seen l.rest)

abbrev pub decreases-loop-claim : goal.decreases-loop-claim
decreases-loop-claim l = length l.rest
