use Rattle.std.proofs.Common.{map, take}
use Rattle.std.specs.List.{AllZip}
use Rattle.reg_export.specs.KeyFiles.{keyed}
use Rattle.reg_export.specs.Kept.{row_at}
use Rattle.reg_export.specs.IntoFiles.{IsKeyedOf}
use Rattle.reg_export.proofs.into_rows.keyed_rows.Given as goal

abbrev pub invariant-loop-row : goal.invariant-loop-row
invariant-loop-row l = AllZip IsKeyedOf (map row_at (take l.row-index l.rows)) (map keyed l.made.items)
