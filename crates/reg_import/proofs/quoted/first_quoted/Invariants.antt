use Rattle.std.proofs.Common.{◌≡◌, length}
use Rattle.reg_import.specs.Quoted.{first_quoted}
use Rattle.reg_import.proofs.quoted.first_quoted.Given as goal

abbrev pub invariant-loop-b : goal.invariant-loop-b
invariant-loop-b l = first_quoted l.rest ≡ first_quoted l.bytes

abbrev pub decreases-loop-b : goal.decreases-loop-b
decreases-loop-b l = length l.rest
