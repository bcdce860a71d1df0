use Rattle.std.proofs.Common.{◌≡◌, ◌≤◌, ◌-◌, length, drop, map}
use Rattle.std.specs.Char.{to_ascii_lowercase}
use Rattle.crs_part.specs.Words.{first_word}
use Rattle.crs_part.proofs.words.first_of.Given as goal

abbrev pub invariant-loop-i : goal.invariant-loop-i
invariant-loop-i g l = record { within : l.i ≤ length l.values; same : first_word g.T.Word.spelled l.fn.values (map to_ascii_lowercase l.fn.bytes) ≡ first_word g.T.Word.spelled (drop l.i l.values) (map to_ascii_lowercase l.bytes) }

abbrev pub decreases-loop-i : goal.decreases-loop-i
decreases-loop-i g l = length l.values - l.i
