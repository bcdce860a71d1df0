use Rattle.std.proofs.Common.{◌≡◌, length}
use Rattle.crs_exact.specs.Names.{has_part}
use Rattle.crs_exact.proofs.names.has_part.Given as goal

abbrev pub invariant-loop-others : goal.invariant-loop-others
invariant-loop-others l = has_part l.part l.name ≡ has_part l.part l.rest

abbrev pub decreases-loop-others : goal.decreases-loop-others
decreases-loop-others l = length l.rest
