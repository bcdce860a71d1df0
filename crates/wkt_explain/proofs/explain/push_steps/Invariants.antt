use Rattle.std.proofs.Common.{◌≡◌, ◌++◌, map, length}
use Rattle.std.specs.List.{flat_map}
use Rattle.wkt_explain.specs.Explains.{step_words}
use Rattle.wkt_explain.proofs.explain.push_steps.Given as goal

abbrev pub invariant-loop-word : goal.invariant-loop-word
invariant-loop-word l = l.out.items ++ flat_map step_words (map (λ w. w.items) l.rest) ≡ l.initial.out.items ++ flat_map step_words (map (λ w. w.items) l.words)

abbrev pub decreases-loop-word : goal.decreases-loop-word
decreases-loop-word l = length l.rest
