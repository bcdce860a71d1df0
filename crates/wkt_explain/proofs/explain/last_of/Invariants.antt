use Rattle.std.proofs.Common.{◌≡◌, [], map, length}
use Rattle.wkt_explain.specs.Explains.{last_of}
use Rattle.wkt_explain.proofs.explain.last_of.Given as goal

abbrev pub invariant-loop-word : goal.invariant-loop-word
invariant-loop-word l = last_of l.last (map (λ w. w.items) l.rest) ≡ last_of [] (map (λ w. w.items) l.words)

abbrev pub decreases-loop-word : goal.decreases-loop-word
decreases-loop-word l = length l.rest
