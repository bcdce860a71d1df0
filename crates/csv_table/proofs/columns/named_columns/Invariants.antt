use Rattle.std.proofs.Common.{◌≡◌, map, take}
use Rattle.csv_table.specs.Table.{named}
use Rattle.csv_table.proofs.columns.named_columns.Given as goal

abbrev pub invariant-loop-name : goal.invariant-loop-name
invariant-loop-name l = l.made.items ≡ map (λ name. named name.now) (take l.name-index l.header)
