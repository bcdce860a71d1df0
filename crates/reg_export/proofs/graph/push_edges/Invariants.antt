use Rattle.std.proofs.Common.{◌≡◌, ◌++◌, length, map}
use Rattle.std.specs.List.{flat_map}
use Rattle.reg_report.specs.Seen.{row_seen}
use Rattle.reg_export.specs.Graph.{edges_of}
use Rattle.reg_export.proofs.graph.push_edges.Given as goal

abbrev pub invariant-loop-row : goal.invariant-loop-row
invariant-loop-row l = l.text.items ++ flat_map (edges_of l.names l.register.ops) (map row_seen l.rest) ≡ l.initial.text.items ++ flat_map (edges_of l.names l.register.ops) (map row_seen l.rows)

abbrev pub decreases-loop-row : goal.decreases-loop-row
decreases-loop-row l = length l.rest
