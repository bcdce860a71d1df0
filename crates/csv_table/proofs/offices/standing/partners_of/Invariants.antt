use Rattle.std.proofs.Common.{◌≡◌, ◌++◌, List, length, map}
use Rattle.csv_table.specs.declared.offices.names.Name.{Name}
use Rattle.csv_table.specs.Standing.{by_office, by_name, Has}
use Rattle.csv_table.proofs.offices.standing.partners_of.Given as goal

abbrev pub invariant-loop-row : goal.invariant-loop-row
invariant-loop-row l = (later : List Name) × (l.rows ≡ l.rest ++ later) × Has l.names (map by_office later) × Has l.offices (map by_name later)

abbrev pub decreases-loop-row : goal.decreases-loop-row
decreases-loop-row l = length l.rest
