use Rattle.std.proofs.Common.{◌≡◌, ◌++◌, ◌+◌, Some, length, map, drop}
use Rattle.csv.specs.Records.{fields_of}
use Rattle.csv_table.specs.Reading.{given, pair, first_bad}
use Rattle.csv_table.proofs.offices.reading.names_of.Given as goal

-- the names so far, followed by what the remaining rows give, are what all rows give; the first bad row is among those that remain
abbrev pub invariant-loop-row : goal.invariant-loop-row
invariant-loop-row l = (map (λ n. Some (pair n)) l.names.items ++ map given (map fields_of (drop l.row-index l.fn.rows)) ≡ map given (map fields_of l.fn.rows))
    × (first_bad (length l.names.items + 2) (map fields_of (drop l.row-index l.fn.rows)) ≡ first_bad 2 (map fields_of l.fn.rows))
