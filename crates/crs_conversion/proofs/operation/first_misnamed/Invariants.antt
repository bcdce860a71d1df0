use Rattle.std.proofs.Common.{◌≡◌, length}
use Rattle.crs_conversion.specs.Operation.{first_misnamed}
use Rattle.crs_conversion.proofs.operation.first_misnamed.Given as goal

abbrev pub invariant-loop-parameter : goal.invariant-loop-parameter
invariant-loop-parameter l = first_misnamed l.parameters ≡ first_misnamed l.rest

abbrev pub decreases-loop-parameter : goal.decreases-loop-parameter
decreases-loop-parameter l = length l.rest
