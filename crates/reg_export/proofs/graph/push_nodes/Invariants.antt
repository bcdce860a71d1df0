use Rattle.std.proofs.Common.{◌≡◌, ◌++◌, ℕ, List, length, map}
use Rattle.reg_report.specs.Seen.{row_seen}
use Rattle.reg_export.specs.Graph.{IsNodeOf}
use Rattle.reg_export.proofs.EachLemmas.{Gathers}
use Rattle.reg_export.proofs.graph.push_nodes.Given as goal

abbrev pub invariant-loop-row : goal.invariant-loop-row
invariant-loop-row l = (made : List ℕ) × (l.text.items ≡ l.initial.text.items ++ made) × Gathers (IsNodeOf l.all l.ids) (map row_seen l.rows) (map row_seen l.rest) made

abbrev pub decreases-loop-row : goal.decreases-loop-row
decreases-loop-row l = length l.rest
