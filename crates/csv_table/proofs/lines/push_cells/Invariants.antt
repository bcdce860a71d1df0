use Rattle.std.proofs.Common.{◌≡◌, ◌++◌, map, drop, string_bytes}
use Rattle.csv_table.specs.Table.{cells}
use Rattle.csv_table.proofs.lines.push_cells.Given as goal

-- the line so far, followed by the cells of the remaining fields, is the whole line
abbrev pub invariant-loop-field : goal.invariant-loop-field
invariant-loop-field l = string_bytes l.line ++ cells l.fn.is_entry (map (λ field. field.now) (drop l.field-index l.fn.fields)) l.rest ≡ string_bytes l.fn.line ++ cells l.fn.is_entry (map (λ field. field.now) l.fn.fields) l.fn.columns
