use Rattle.std.proofs.Common.{◌≡◌, drop}
use Rattle.wkt_explain.specs.Characters.{chars}
use Rattle.wkt_explain.proofs.characters.after_chars.Given as goal

abbrev pub invariant-loop-left : goal.invariant-loop-left
invariant-loop-left l = drop l.left (chars l.rest) ≡ drop l.most (chars l.bytes)

abbrev pub decreases-loop-left : goal.decreases-loop-left
decreases-loop-left l = l.left
