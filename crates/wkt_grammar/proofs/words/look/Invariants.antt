use Rattle.std.proofs.Common.{◌≡◌, ◌≤◌, length, ◌-◌, drop, map}
use Rattle.std.specs.List.{zip}
use Rattle.std.specs.Map.{lookup}
use Rattle.crs_part.specs.Words.{same_word}
use Rattle.wkt_grammar.proofs.words.look.Given as goal

abbrev pub invariant-loop-i : goal.invariant-loop-i
invariant-loop-i l = record { within : l.i ≤ length l.words; same : lookup (λ w. same_word w l.fn.bytes) (zip (map (λ w. w.now) l.fn.words) l.fn.meanings) ≡ lookup (λ w. same_word w l.bytes) (zip (map (λ w. w.now) (drop l.i l.words)) (drop l.i l.meanings)) }

abbrev pub decreases-loop-i : goal.decreases-loop-i
decreases-loop-i l = length l.words - l.i
