use Rattle.std.proofs.Common.{◌≡◌, drop}
use Rattle.std.specs.List.{list_all}
use Rattle.csv_table.specs.Names.{agree}
use Rattle.csv_table.proofs.offices.standing.stands.Given as goal

-- the remaining rows agree if and only if all do
abbrev pub invariant-loop-other : goal.invariant-loop-other
invariant-loop-other l = list_all (agree l.fn.row) (drop l.other-index l.fn.rows) ≡ list_all (agree l.fn.row) l.fn.rows
