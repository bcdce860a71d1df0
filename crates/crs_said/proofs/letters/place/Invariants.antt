use Rattle.std.proofs.Common.{◌≡◌, ◌+◌, length}
use Rattle.crs_said.specs.Letters.{place}
use Rattle.crs_said.proofs.letters.place.Given as goal

abbrev pub invariant-loop-others : goal.invariant-loop-others
invariant-loop-others l = (l.count + place l.part l.rest ≡ place l.part l.name) × (l.count + length l.rest ≡ length l.name)

abbrev pub decreases-loop-others : goal.decreases-loop-others
decreases-loop-others l = length l.rest
