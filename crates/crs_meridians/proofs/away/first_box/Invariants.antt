use Rattle.std.proofs.Common.{◌≡◌, length}
use Rattle.crs_meridians.specs.Away.{first_box}
use Rattle.crs_meridians.proofs.away.first_box.Given as goal

abbrev pub invariant-loop-usage : goal.invariant-loop-usage
invariant-loop-usage l = first_box l.rest ≡ first_box l.usages

abbrev pub decreases-loop-usage : goal.decreases-loop-usage
decreases-loop-usage l = length l.rest
