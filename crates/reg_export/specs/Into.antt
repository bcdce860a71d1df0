-- A register, handed on as a folder.
use Rattle.std.specs.Prelude.{◌≡◌, ◌⊎◌, Bool, List}
use Rattle.byte_folder.specs.Folder.{File, FolderState}
use Rattle.byte_folder.specs.Put.{Puts, IsPutFault}
use Rattle.byte_folder.specs.declared.fault.FolderFault.TheVariants as put
use Rattle.reg_op.specs.Contents.{Content}
use Rattle.reg_engine.specs.declared.fault.OutFault.TheVariants as out
use Rattle.reg_engine.specs.declared.fault.CliFault.{CliFault}
use Rattle.reg_engine.specs.declared.fault.CliFault.TheVariants as cli
use Rattle.reg_engine.specs.Store.{Around}
use Rattle.reg_export.specs.declared.choice.Choice.{Choice}
use Rattle.reg_export.specs.Stopped.{CannotHand}
use Rattle.reg_export.specs.declared.into_rows.LeftOutOfFolder.{LeftOutOfFolder}
use Rattle.reg_export.specs.IntoFiles.{HandsFiles}

-- a register was read, and a folder with its files is in place
abbrev pub IsPutInto : Around → (Content → List File → Type 0) → FolderState → FolderState → Type 0
IsPutInto a Hands old new = (x : Content) × a.came x × ((fs : List File) × Hands x fs × Puts fs old new)

-- no folder with these files is in place, for this reason
abbrev pub IsNotOut : List File → FolderState → FolderState → CliFault → Type 0
IsNotOut fs old new (cli.Refused r) = ⊥
IsNotOut fs old new (cli.File k f) = ⊥
IsNotOut fs old new (cli.Out out.TooLarge) = ⊥
IsNotOut fs old new (cli.Out out.NotOpened) = IsPutFault fs old new put.NotOpened
IsNotOut fs old new (cli.Out out.NewExists) = IsPutFault fs old new put.NewExists
IsNotOut fs old new (cli.Out (out.WriteFailed n)) = IsPutFault fs old new (put.WriteFailed n)
IsNotOut fs old new (cli.Out (out.ReadFailed n)) = ⊥
IsNotOut fs old new (cli.Out out.Changed) = ⊥
IsNotOut fs old new (cli.Out out.NotSynced) = ⊥
IsNotOut fs old new cli.Memory = ⊥
IsNotOut fs old new (cli.Shelf p) = ⊥
IsNotOut fs old new (cli.Office t) = ⊥

-- no register was read; or nothing of it is handed on; or the folder is not in place
abbrev pub IsNotPutInto : Around → Choice → Bool → FolderState → FolderState → CliFault → Type 0
IsNotPutInto a c keep_going old new f = (a.none f × (new ≡ old))
    ⊎ ((x : Content) × a.came x
    × ((CannotHand c keep_going x f × (new ≡ old)) ⊎ ((left : LeftOutOfFolder) × (fs : List File) × HandsFiles c keep_going left x fs × IsNotOut fs old new f)))
