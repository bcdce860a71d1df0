use Rattle.std.proofs.Common.{◌≡◌, ◌++◌, length, map}
use Rattle.std.specs.List.{flat_map}
use Rattle.reg_op.specs.Rows.{Row}
use Rattle.reg_report.specs.Seen.{row_seen}
use Rattle.reg_export.specs.Graph.{linked_by}
use Rattle.reg_export.proofs.graph.push_rows.Given as goal

abbrev pub invariant-loop-row : goal.invariant-loop-row
invariant-loop-row l =
    l.ids.items ++ flat_map (λ (r : Row). linked_by r.entry r.newer) (map row_seen l.rest) ≡ l.initial.ids.items ++ flat_map (λ (r : Row). linked_by r.entry r.newer) (map row_seen l.rows)

abbrev pub decreases-loop-row : goal.decreases-loop-row
decreases-loop-row l = length l.rest
