use Rattle.std.proofs.Common.{◌≡◌, ◌++◌}
use Rattle.wkt_explain.specs.Shown.{blanks}
use Rattle.wkt_explain.proofs.shown.push_blanks.Given as goal

abbrev pub invariant-loop-left : goal.invariant-loop-left
invariant-loop-left l = l.out.items ++ blanks l.left ≡ l.initial.out.items ++ blanks l.count

abbrev pub decreases-loop-left : goal.decreases-loop-left
decreases-loop-left l = l.left
