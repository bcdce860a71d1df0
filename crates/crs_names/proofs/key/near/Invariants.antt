use Rattle.std.proofs.Common.{◌≡◌, length}
use Rattle.crs_names.specs.Key.{near}
use Rattle.crs_names.proofs.key.near.Given as goal

abbrev pub invariant-loop-a : goal.invariant-loop-a
invariant-loop-a l = near l.known l.given ≡ near l.wanted l.rest

abbrev pub decreases-loop-a : goal.decreases-loop-a
decreases-loop-a l = length l.wanted
