use Rattle.std.proofs.Common.{◌≡◌, drop}
use Rattle.std.specs.List.{find}
use Rattle.csv_table.specs.Typed.{names_office}
use Rattle.csv_table.proofs.offices.words.named_in.Given as goal

-- what is found among the remaining rows is found among all
abbrev pub invariant-loop-name : goal.invariant-loop-name
invariant-loop-name l = find (names_office l.fn.names l.fn.word) (drop l.name-index l.fn.names) ≡ find (names_office l.fn.names l.fn.word) l.fn.names
