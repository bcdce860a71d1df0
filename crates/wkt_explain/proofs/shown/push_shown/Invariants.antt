use Rattle.std.proofs.Common.{◌≡◌, ◌++◌, take}
use Rattle.wkt_explain.specs.Characters.{chars}
use Rattle.wkt_explain.specs.Shown.{shown}
use Rattle.wkt_explain.proofs.shown.push_shown.Given as goal

abbrev pub invariant-loop-left : goal.invariant-loop-left
invariant-loop-left l = l.out.items ++ shown (take l.left (chars l.rest)) ≡ l.initial.out.items ++ shown (take l.most (chars l.bytes))

abbrev pub decreases-loop-left : goal.decreases-loop-left
decreases-loop-left l = l.left
