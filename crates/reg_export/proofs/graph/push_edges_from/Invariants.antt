use Rattle.std.proofs.Common.{◌≡◌, ◌++◌, length}
use Rattle.reg_export.specs.Graph.{edges_from}
use Rattle.reg_export.proofs.graph.push_edges_from.Given as goal

abbrev pub invariant-loop-one : goal.invariant-loop-one
invariant-loop-one l = l.text.items ++ edges_from l.names l.register.ops l.fn.entry l.rest ≡ l.initial.text.items ++ edges_from l.names l.register.ops l.fn.entry l.newer

abbrev pub decreases-loop-one : goal.decreases-loop-one
decreases-loop-one l = length l.rest
