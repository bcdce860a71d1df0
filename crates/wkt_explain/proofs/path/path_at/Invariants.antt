use Rattle.std.proofs.Common.{◌≡◌, map, filter}
use Rattle.wkt_explain.specs.Path.{is_named}
use Rattle.wkt_explain.proofs.path.path_at.Given as goal

abbrev pub invariant-loop-word : goal.invariant-loop-word
invariant-loop-word l = map (λ w. w.items) l.path.items ≡ filter is_named (map (λ w. w.items) l.yielded)
