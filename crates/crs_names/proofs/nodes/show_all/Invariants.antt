use Rattle.std.proofs.Common.{List, length}
use Rattle.crs_names.specs.Nodes.{Part, of_each}
use Rattle.crs_names.proofs.nodes.show_all.Given as goal

abbrev pub invariant-loop-part : goal.invariant-loop-part
invariant-loop-part g l =
    (first : g.row.V.Denot) (all ps : List Part) → g.V.Visitor.has first l.fn.to all (of_each g.T.HasNodes.nodes l.parts ps)
    → g.V.Visitor.has first l.to all (of_each g.T.HasNodes.nodes l.rest ps)

abbrev pub decreases-loop-part : goal.decreases-loop-part
decreases-loop-part g l = length l.rest
