use Rattle.std.proofs.Common.{◌≡◌, map, take}
use Rattle.byte_folder.specs.Folder.{seen}
use Rattle.reg_export.specs.KeyFiles.{keyed}
use Rattle.reg_export.specs.Twins.{At, Holds, file_at}
use Rattle.reg_export.proofs.files.files_by.Given as goal

abbrev pub invariant-loop-text : goal.invariant-loop-text
invariant-loop-text l = (at : At) → Holds l.notes at → map seen l.files.items ≡ map (file_at at) (map keyed (take l.text-index l.texts))
