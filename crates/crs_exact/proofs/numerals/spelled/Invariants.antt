use Rattle.std.proofs.Common.{◌≡◌, ◌<◌, length}
use Rattle.crs_exact.specs.Tables.{spelled}
use Rattle.crs_exact.proofs.numerals.spelled.Given as goal

abbrev pub invariant-loop-digit : goal.invariant-loop-digit
invariant-loop-digit l = (spelled l.number l.rest ≡ spelled l.first l.digits) × (l.number < 600000000000000000000000)

abbrev pub decreases-loop-digit : goal.decreases-loop-digit
decreases-loop-digit l = length l.rest
