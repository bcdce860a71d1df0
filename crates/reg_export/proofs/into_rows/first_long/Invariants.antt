use Rattle.std.proofs.Common.{◌≡◌, length, map}
use Rattle.byte_folder.specs.Folder.{seen}
use Rattle.reg_export.specs.IntoFiles.{first_long}
use Rattle.reg_export.proofs.into_rows.first_long.Given as goal

abbrev pub invariant-loop-entry : goal.invariant-loop-entry
invariant-loop-entry l = first_long l.entries (map seen l.files) ≡ first_long l.left (map seen l.made)

abbrev pub decreases-loop-entry : goal.decreases-loop-entry
decreases-loop-entry l = length l.left
