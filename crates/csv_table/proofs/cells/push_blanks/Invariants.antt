use Rattle.std.proofs.Common.{◌≡◌, ◌++◌, string_bytes}
use Rattle.csv_table.specs.Cells.{blanks}
use Rattle.csv_table.proofs.cells.push_blanks.Given as goal

abbrev pub invariant-loop : goal.invariant-loop
invariant-loop l = string_bytes l.line ≡ string_bytes l.fn.line ++ blanks l.counter
