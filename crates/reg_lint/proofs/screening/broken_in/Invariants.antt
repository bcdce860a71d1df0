use Rattle.std.proofs.Common.{◌≡◌, ◌++◌, length}
use Rattle.std.specs.List.{flat_map}
use Rattle.reg_lint.specs.Screening.{broken_own}
use Rattle.reg_lint.proofs.screening.broken_in.Given as goal

abbrev pub invariant-loop-rule : goal.invariant-loop-rule
invariant-loop-rule l = l.broken.items ++ flat_map (broken_own l.crs) l.rest ≡ flat_map (broken_own l.crs) l.rules

abbrev pub decreases-loop-rule : goal.decreases-loop-rule
decreases-loop-rule l = length l.rest
