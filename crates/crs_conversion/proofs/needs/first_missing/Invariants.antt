use Rattle.std.proofs.Common.{◌≡◌, length}
use Rattle.std.specs.List.{find}
use Rattle.crs_exact.specs.Tables.{pieces}
use Rattle.crs_conversion.specs.Needs.{is_missing}
use Rattle.crs_conversion.proofs.needs.first_missing.Given as goal

abbrev pub invariant-loop-code : goal.invariant-loop-code
invariant-loop-code l = find (is_missing l.parameters) (pieces 44 l.rest) ≡ find (is_missing l.parameters) (pieces 44 l.needed)

abbrev pub decreases-loop-code : goal.decreases-loop-code
decreases-loop-code l = length l.rest
