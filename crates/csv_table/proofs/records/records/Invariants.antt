use Rattle.std.proofs.Common.{map}
use Rattle.csv.specs.Records.{fields_of}
use Rattle.csv_table.specs.Records.{HasRead}
use Rattle.csv_table.proofs.records.records.Given as goal

-- the rows so far are the first records, and the rest is still to come
abbrev pub invariant-loop-row : goal.invariant-loop-row
invariant-loop-row l = HasRead l.fn.text (map fields_of l.rows.items) l.row-iterator
