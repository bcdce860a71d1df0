use Rattle.std.proofs.Common.{◌≡◌, length}
use Rattle.crs_exact.specs.Tables.{row_of}
use Rattle.crs_exact.proofs.tables.row_of.Given as goal

abbrev pub invariant-loop-row : goal.invariant-loop-row
invariant-loop-row l = row_of l.rest l.name ≡ row_of l.table l.name

abbrev pub decreases-loop-row : goal.decreases-loop-row
decreases-loop-row l = length l.rest
