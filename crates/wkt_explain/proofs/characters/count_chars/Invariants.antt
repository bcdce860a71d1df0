use Rattle.std.proofs.Common.{◌≡◌, ◌+◌, ◌≤◌, length}
use Rattle.wkt_explain.specs.Characters.{chars}
use Rattle.wkt_explain.proofs.characters.count_chars.Given as goal

abbrev pub invariant-loop-others : goal.invariant-loop-others
invariant-loop-others l = (l.count + length (chars l.rest) ≡ length (chars l.bytes)) × (l.count + length l.rest ≤ length l.bytes)

abbrev pub decreases-loop-others : goal.decreases-loop-others
decreases-loop-others l = length l.rest
