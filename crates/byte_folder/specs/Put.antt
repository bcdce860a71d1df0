-- The effect of putting a folder with some files in place.
use Rattle.std.specs.Prelude.{◌≡◌, ◌⊎◌, ◌<◌, ◌≤◌, ◌+◌, ◌++◌, ◌^◌, ℕ, false, List, length, take, Option, Some, None, option_map, IsSome, IsTrue}
use Rattle.std.specs.List.{list_any}
use Rattle.byte_io.specs.Device.{SinkState}
use Rattle.byte_io.specs.Whole.{FailedOrTookNone}
use Rattle.byte_folder.specs.Folder.{File, Folders, FolderState, IfReported, IsFree, IsCleared, contents, is_long}
use Rattle.byte_folder.specs.declared.fault.FolderFault.{FolderFault}
use Rattle.byte_folder.specs.declared.fault.FolderFault.TheVariants as put

-- all bytes of these files were written, to a new file each
pub record WritesFiles (fs : List File) (old new : SinkState) : Type 0 where
  pub taken : new.taken ≡ old.taken ++ contents fs
  pub failures : new.failures ≡ old.failures
  pub stalls : new.stalls ≡ old.stalls
  pub openings : new.openings ≡ old.openings + length fs

-- a call failed, and no byte moved
pub record Fails (old new : SinkState) : Type 0 where
  pub taken : new.taken ≡ old.taken
  pub failures : new.failures ≡ old.failures + 1
  pub stalls : new.stalls ≡ old.stalls
  pub openings : new.openings ≡ old.openings

-- a step failed; the bytes of some of the files, in order, were written
pub record FailsAfter (fs : List File) (old new : SinkState) : Type 0 where
  pub done : List File
  pub rest : List File
  pub of : fs ≡ done ++ rest
  pub taken : new.taken ≡ old.taken ++ contents done
  pub failures : new.failures ≡ old.failures + 1
  pub stalls : new.stalls ≡ old.stalls

-- exactly the first n bytes of all files were written, not all; the device failed, or took none
pub record IsCut (n : ℕ) (fs : List File) (old new : SinkState) : Type 0 where
  pub taken : new.taken ≡ old.taken ++ take n (contents fs)
  pub short : n < length (contents fs)
  pub cause : FailedOrTookNone old new

-- ---- the files, added to the new folder

-- the new folder has these files after those that it had
abbrev pub IsFilled : List File → Folders → Folders → Type 0
IsFilled fs old new = (new.beside ≡ option_map (λ gs. gs ++ fs) old.beside) × (new.stands ≡ old.stands) × (new.stuck ≡ old.stuck)

-- the folder with the name is unchanged
abbrev pub Stays : Folders → Folders → Type 0
Stays old new = (new.stands ≡ old.stands) × (new.stuck ≡ old.stuck)

abbrev pub Adds : List File → FolderState → FolderState → Type 0
Adds fs old new = WritesFiles fs old.sink new.sink × IfReported (IsFilled fs) old.folders new.folders

abbrev pub IsAddFault : List File → FolderState → FolderState → FolderFault → Type 0
IsAddFault fs old new put.NotOpened = FailsAfter fs old.sink new.sink × IfReported Stays old.folders new.folders
IsAddFault fs old new put.NewExists = ⊥
IsAddFault fs old new (put.WriteFailed n) = IsCut n fs old.sink new.sink × IfReported Stays old.folders new.folders

-- ---- the folder, put in place

-- the folder with the name has exactly these files, and had none
pub record IsInPlace (fs : List File) (old new : Folders) : Type 0 where
  pub was_free : IsFree old.stands
  pub was_alone : old.beside ≡ None
  pub stands : new.stands ≡ Some fs
  pub beside : new.beside ≡ None
  pub same_stuck : new.stuck ≡ old.stuck

-- the folder with the name is unchanged, and there was no new folder, nor is there one
pub record IsKept (old new : Folders) : Type 0 where
  pub was_alone : old.beside ≡ None
  pub stands : new.stands ≡ old.stands
  pub cleared : IsCleared old new

abbrev pub Puts : List File → FolderState → FolderState → Type 0
Puts fs old new = (list_any is_long fs ≡ false) × WritesFiles fs old.sink new.sink × IfReported (IsInPlace fs) old.folders new.folders

-- a name is too long, or the number of bytes does not fit 64 bits
abbrev pub IsImpossible : List File → Type 0
IsImpossible fs = IsTrue (list_any is_long fs) ⊎ (2 ^ 64 ≤ length (contents fs))

-- the name is that of a folder with files, and there is no new folder, as the place reports
abbrev pub IsTaken : Option Folders → Type 0
IsTaken None = ⊥
IsTaken (Some f) = (f.beside ≡ None) × ¬ (IsFree f.stands)

-- there is a new folder, as the place reports
abbrev pub HasNew : Option Folders → Type 0
HasNew None = ⊥
HasNew (Some f) = IsSome f.beside

-- the outcome of each fault. In each case nothing is in place
abbrev pub IsPutFault : List File → FolderState → FolderState → FolderFault → Type 0
-- no folder can have the files, and nothing changed; or no new folder was made, and there was none; or one was, and was removed
IsPutFault fs old new put.NotOpened = ((new ≡ old) × IsImpossible fs)
    ⊎ ((Fails old.sink new.sink × IfReported (λ f g. (g ≡ f) × (f.beside ≡ None)) old.folders new.folders) ⊎ (FailsAfter fs old.sink new.sink × IfReported IsKept old.folders new.folders))
-- there was a new folder
IsPutFault fs old new put.NewExists = Fails old.sink new.sink × IfReported (λ f g. (g ≡ f) × IsSome f.beside) old.folders new.folders
-- not all bytes were written, and the new folder was removed
IsPutFault fs old new (put.WriteFailed n) = IsCut n fs old.sink new.sink × IfReported IsKept old.folders new.folders
