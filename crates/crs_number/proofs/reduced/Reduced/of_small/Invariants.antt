use Rattle.std.proofs.Common.{◌≡◌, ◌*◌, ◌^◌, ◌≤◌, ◌<◌}
use Rattle.crs_number.proofs.reduced.Reduced.of_small.Given as goal

abbrev pub invariant-loop-coefficient : goal.invariant-loop-coefficient
invariant-loop-coefficient l = record { some : 0 < l.coefficient; zeros : l.zeros ≤ 18; number : l.coefficient * 10 ^ l.zeros ≡ l.fn.number }

abbrev pub decreases-loop-coefficient : goal.decreases-loop-coefficient
decreases-loop-coefficient l = l.coefficient
