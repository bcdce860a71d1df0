use Rattle.std.proofs.Common.{◌≡◌, map, take}
use Rattle.csv_table.specs.Shown.{shown}
use Rattle.csv_table.proofs.offices.rows.named_fields.Given as goal

abbrev pub invariant-loop-field : goal.invariant-loop-field
invariant-loop-field l = map (λ field. field.items) l.made.items ≡ map (shown l.fn.keeps l.fn.names) (map (λ field. field.now) (take l.field-index l.fn.fields))
