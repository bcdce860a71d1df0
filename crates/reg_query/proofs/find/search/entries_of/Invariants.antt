use Rattle.std.proofs.Common.{◌≡◌, map, take}
use Rattle.reg_report.specs.declared.row.Row.{Row}
use Rattle.reg_query.proofs.find.search.entries_of.Given as goal

abbrev pub invariant-loop-row : goal.invariant-loop-row
invariant-loop-row l = l.ids.items ≡ map (λ (r : Row). r.entry) (take l.row-index l.rows)
