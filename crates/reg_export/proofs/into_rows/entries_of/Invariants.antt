use Rattle.std.proofs.Common.{◌≡◌, map, take}
use Rattle.reg_export.specs.Kept.{row_at}
use Rattle.reg_export.specs.IntoFiles.{entries}
use Rattle.reg_export.proofs.into_rows.entries_of.Given as goal

abbrev pub invariant-loop-row : goal.invariant-loop-row
invariant-loop-row l = l.made.items ≡ entries (map row_at (take l.row-index l.rows))
