use Rattle.std.proofs.Common.{◌≡◌, ◌++◌, map, drop}
use Rattle.csv.specs.Records.{fields_of}
use Rattle.csv_table.proofs.records.fields.Given as goal

-- the fields so far, followed by the remaining fields, are all fields
abbrev pub invariant-loop-field : goal.invariant-loop-field
invariant-loop-field l = (l.field-iterator.row.now ≡ l.fn.row) × (map (λ field. field.now) l.made.items ++ drop l.field-iterator.at (fields_of l.fn.row) ≡ fields_of l.fn.row)
