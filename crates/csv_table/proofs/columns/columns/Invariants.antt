use Rattle.std.proofs.Common.{List, ℕ}
use Rattle.csv_table.specs.Records.{HasRead}
use Rattle.csv_table.proofs.ColumnLemmas.{Columned}
use Rattle.csv_table.proofs.columns.columns.Given as goal

-- these are the columns of the records so far
abbrev pub invariant-loop-row : goal.invariant-loop-row
invariant-loop-row l = (records : List (List (List ℕ))) × HasRead l.fn.rows records l.row-iterator × Columned l.is_header records l.made.items
