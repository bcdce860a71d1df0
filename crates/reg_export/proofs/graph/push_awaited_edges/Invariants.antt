use Rattle.std.proofs.Common.{◌≡◌, ◌++◌, length}
use Rattle.std.specs.List.{flat_map}
use Rattle.reg_export.specs.Graph.{edges_in}
use Rattle.reg_export.proofs.graph.push_awaited_edges.Given as goal

abbrev pub invariant-loop-op : goal.invariant-loop-op
invariant-loop-op l = l.text.items ++ flat_map (edges_in l.names l.register.ops) l.rest ≡ l.initial.text.items ++ flat_map (edges_in l.names l.register.ops) l.ops

abbrev pub decreases-loop-op : goal.decreases-loop-op
decreases-loop-op l = length l.rest
