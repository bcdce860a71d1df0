use Rattle.std.proofs.Common.{◌≡◌, length}
use Rattle.crs_exact.specs.Tables.{row_coded}
use Rattle.crs_exact.proofs.tables.row_coded.Given as goal

abbrev pub invariant-loop-row : goal.invariant-loop-row
invariant-loop-row l = row_coded l.rest l.code ≡ row_coded l.table l.code

abbrev pub decreases-loop-row : goal.decreases-loop-row
decreases-loop-row l = length l.rest
