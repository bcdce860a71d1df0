use Rattle.std.proofs.Common.{◌≡◌, ◌++◌, map, drop}
use Rattle.csv_table.specs.Table.{widened}
use Rattle.csv_table.proofs.columns.widened.Given as goal

-- the columns so far, followed by those of the remaining fields, are all columns
abbrev pub invariant-loop-field : goal.invariant-loop-field
invariant-loop-field l = l.made.items ++ widened (map (λ field. field.now) (drop l.field-index l.fn.fields)) l.rest ≡ widened (map (λ field. field.now) l.fn.fields) l.fn.columns
