use Rattle.std.proofs.Common.{List, ℕ, ◌≡◌, ◌++◌}
use Rattle.csv_table.specs.Records.{HasRead}
use Rattle.csv_table.specs.Table.{lines}
use Rattle.csv_table.proofs.lines.push_lines.Given as goal

-- the text has the lines of the records so far
abbrev pub invariant-loop-row : goal.invariant-loop-row
invariant-loop-row l = (records : List (List (List ℕ))) × HasRead l.fn.rows records l.row-iterator × (l.text.items ≡ l.fn.text.items ++ lines l.fn.columns records)
