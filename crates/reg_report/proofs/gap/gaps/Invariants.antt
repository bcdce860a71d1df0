use Rattle.std.proofs.Common.{◌≡◌, ◌++◌, None, length}
use Rattle.reg_report.specs.Between.{gaps_between}
use Rattle.reg_report.proofs.gap.gaps.Given as goal

abbrev pub invariant-loop-run : goal.invariant-loop-run
invariant-loop-run l = l.made.items ++ gaps_between l.before l.rest ≡ gaps_between None l.initial.rest

abbrev pub decreases-loop-run : goal.decreases-loop-run
decreases-loop-run l = length l.rest
