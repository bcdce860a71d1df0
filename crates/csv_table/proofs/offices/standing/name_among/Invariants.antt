use Rattle.std.proofs.Common.{◌≡◌, ◌&&◌, drop}
use Rattle.std.specs.List.{find}
use Rattle.std.specs.Str.{bytes_eq}
use Rattle.csv_table.specs.Names.{stands}
use Rattle.csv_table.proofs.offices.standing.name_among.Given as goal

-- what is found among the remaining rows is found among all
abbrev pub invariant-loop-row : goal.invariant-loop-row
invariant-loop-row l = find (λ n. bytes_eq n.office.items l.fn.office && stands l.fn.rows n) (drop l.row-index l.fn.rows) ≡ find (λ n. bytes_eq n.office.items l.fn.office && stands l.fn.rows n) l.fn.rows
