use Rattle.std.proofs.Common.{◌≡◌, length}
use Rattle.reg_page.specs.Codes.{without_zeros}
use Rattle.reg_page.proofs.order.without_zeros.Given as goal

abbrev pub invariant-loop-byte : goal.invariant-loop-byte
invariant-loop-byte l = without_zeros l.rest ≡ without_zeros l.code

abbrev pub decreases-loop-byte : goal.decreases-loop-byte
decreases-loop-byte l = length l.rest
