use Rattle.std.proofs.Common.{◌≡◌, ◌++◌, List, length, map}
use Rattle.reg_sense.specs.Claimants.{Voice, voice}
use Rattle.reg_sense.specs.Most.{all_claims}
use Rattle.reg_sense.specs.Tallies.{HasTallies, HasMost}
use Rattle.reg_sense.proofs.most.most_of.Given as goal

abbrev pub invariant-loop-claimant : goal.invariant-loop-claimant
invariant-loop-claimant l = (later : List Voice) × (map voice l.claimants ≡ map voice l.rest ++ later)
    × ((vs : List Voice) → HasTallies l.tallies 0 vs → HasMost vs l.best (all_claims later))

abbrev pub decreases-loop-claimant : goal.decreases-loop-claimant
decreases-loop-claimant l = length l.rest
