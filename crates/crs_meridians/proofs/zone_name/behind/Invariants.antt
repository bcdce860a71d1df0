use Rattle.std.proofs.Common.{◌≡◌, length}
use Rattle.crs_meridians.specs.ZoneName.{behind}
use Rattle.crs_meridians.proofs.zone_name.behind.Given as goal

abbrev pub invariant-loop-others : goal.invariant-loop-others
invariant-loop-others l = behind l.part l.name ≡ behind l.part l.rest

abbrev pub decreases-loop-others : goal.decreases-loop-others
decreases-loop-others l = length l.rest
