use Rattle.std.proofs.Common.{◌≡◌, length}
use Rattle.crs_meridians.specs.Said.{meridian_said}
use Rattle.crs_meridians.proofs.said.meridian_said.Given as goal

abbrev pub invariant-loop-others : goal.invariant-loop-others
invariant-loop-others l = meridian_said l.rest ≡ meridian_said l.name

abbrev pub decreases-loop-others : goal.decreases-loop-others
decreases-loop-others l = length l.rest
