use Rattle.std.proofs.Common.{◌≡◌, ◌++◌, length}
use Rattle.reg_export.specs.Graph.{rivals_from}
use Rattle.reg_export.proofs.graph.push_rivals_from.Given as goal

abbrev pub invariant-loop-one : goal.invariant-loop-one
invariant-loop-one l = l.text.items ++ rivals_from l.fn.first l.rest ≡ l.initial.text.items ++ rivals_from l.fn.first l.entries

abbrev pub decreases-loop-one : goal.decreases-loop-one
decreases-loop-one l = length l.rest
