use Rattle.std.proofs.Common.{◌≡◌, ◌<◌, ◌^◌, ◌++◌, List, length, map}
use Rattle.reg_sense.specs.Claimants.{Voice, voice}
use Rattle.reg_sense.specs.Tallies.{HasTallies}
use Rattle.reg_sense.proofs.tally.tallies_of.Given as goal

abbrev pub invariant-loop-claimant : goal.invariant-loop-claimant
invariant-loop-claimant l = (later : List Voice) × (map voice l.claimants ≡ map voice l.rest ++ later) × HasTallies l.made (length l.rest) later × (length l.claimants < 2 ^ 64)

abbrev pub decreases-loop-claimant : goal.decreases-loop-claimant
decreases-loop-claimant l = length l.rest
