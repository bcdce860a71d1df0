use Rattle.std.proofs.Common.{◌≡◌, length}
use Rattle.crs_conversion.specs.Operation.{repeated}
use Rattle.crs_conversion.proofs.operation.repeated.Given as goal

abbrev pub invariant-loop-parameter : goal.invariant-loop-parameter
invariant-loop-parameter l = repeated l.rest ≡ repeated l.parameters

abbrev pub decreases-loop-parameter : goal.decreases-loop-parameter
decreases-loop-parameter l = length l.rest
