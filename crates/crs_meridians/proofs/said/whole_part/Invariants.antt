use Rattle.std.proofs.Common.{◌≡◌, ◌≤◌, length}
use Rattle.crs_meridians.specs.Said.{whole_part}
use Rattle.crs_meridians.proofs.said.whole_part.Given as goal

abbrev pub invariant-loop-b : goal.invariant-loop-b
invariant-loop-b l = (whole_part l.number l.rest ≡ whole_part l.fn.first l.fn.text) × (l.number ≤ 999)

abbrev pub decreases-loop-b : goal.decreases-loop-b
decreases-loop-b l = length l.rest
