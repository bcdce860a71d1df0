use Rattle.std.proofs.Common.{◌≡◌, Some, map, length}
use Rattle.wkt_grammar.specs.declared.table.Node.TheVariants.{Root}
use Rattle.wkt_explain.specs.Wanted.{innermost}
use Rattle.wkt_explain.proofs.wanted.innermost.Given as goal

abbrev pub invariant-loop-word : goal.invariant-loop-word
invariant-loop-word l = innermost l.node (map (λ w. w.items) l.rest) ≡ innermost (Some Root) (map (λ w. w.items) l.path)

abbrev pub decreases-loop-word : goal.decreases-loop-word
decreases-loop-word l = length l.rest
