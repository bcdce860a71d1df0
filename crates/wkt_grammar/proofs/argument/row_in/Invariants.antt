use Rattle.std.proofs.Common.{◌≡◌, ◌≤◌, length, ◌-◌, drop}
use Rattle.wkt_grammar.specs.Rows.{row_in}
use Rattle.wkt_grammar.proofs.argument.row_in.Given as goal

abbrev pub invariant-loop-i : goal.invariant-loop-i
invariant-loop-i l = record { within : l.i ≤ length l.row; same : row_in l.row l.keyword ≡ row_in (drop l.i l.row) l.keyword }

abbrev pub decreases-loop-i : goal.decreases-loop-i
decreases-loop-i l = length l.row - l.i
