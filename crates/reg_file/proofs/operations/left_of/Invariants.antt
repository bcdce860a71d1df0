use Rattle.std.proofs.Common.{◌≡◌, length}
use Rattle.reg_file.specs.Reading.{left_in}
use Rattle.reg_file.proofs.operations.left_of.Given as goal

abbrev pub invariant-loop-place : goal.invariant-loop-place
invariant-loop-place l = left_in l.rest l.id ≡ left_in l.places l.id

abbrev pub decreases-loop-place : goal.decreases-loop-place
decreases-loop-place l = length l.rest
