use Rattle.std.proofs.Common.{◌≡◌, map, take}
use Rattle.csv_table.proofs.offices.rows.slices.Given as goal

abbrev pub invariant-loop-field : goal.invariant-loop-field
invariant-loop-field l = map (λ field. field.now) l.made.items ≡ map (λ field. field.items) (take l.field-index l.fn.fields)
