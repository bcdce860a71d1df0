-- The names and places of faults.
use Rattle.std.specs.Prelude.{ℕ, List, Option, Some, None, codes}
use Rattle.byte_folder.specs.declared.fault.FolderFault.{FolderFault}
use Rattle.byte_folder.specs.declared.fault.FolderFault.TheVariants as folder

abbrev pub folder_name : FolderFault → List ℕ
folder_name folder.NotOpened = codes "NotOpened"
folder_name folder.NewExists = codes "NewExists"
folder_name (folder.WriteFailed at) = codes "WriteFailed"

abbrev pub folder_place : FolderFault → Option ℕ
folder_place folder.NotOpened = None
folder_place folder.NewExists = None
folder_place (folder.WriteFailed at) = Some at
