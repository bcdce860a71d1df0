use Rattle.std.proofs.Common.{◌≡◌, length}
use Rattle.crs_sense.specs.Axes.{share_lines}
use Rattle.crs_sense.proofs.axes.share_lines.Given as goal

abbrev pub invariant-loop-axis : goal.invariant-loop-axis
invariant-loop-axis l = share_lines l.axes ≡ share_lines l.rest

abbrev pub decreases-loop-axis : goal.decreases-loop-axis
decreases-loop-axis l = length l.rest
