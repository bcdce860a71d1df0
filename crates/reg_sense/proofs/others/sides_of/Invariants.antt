use Rattle.std.proofs.Common.{◌≡◌, ◌++◌, List, length, map}
use Rattle.reg_sense.specs.Claimants.{Voice, voice}
use Rattle.reg_sense.specs.Others.{HasSides}
use Rattle.reg_sense.proofs.others.sides_of.Given as goal

abbrev pub invariant-loop-claimant : goal.invariant-loop-claimant
invariant-loop-claimant l = (later : List Voice) × (map voice l.claimants ≡ map voice l.rest ++ later) × HasSides l.made later

abbrev pub decreases-loop-claimant : goal.decreases-loop-claimant
decreases-loop-claimant l = length l.rest
