-- The state of the place of a folder as contracts see it, and the effect of each call.
use Rattle.std.specs.Prelude.{◌≡◌, ◌⊎◌, ◌+◌, ◌++◌, ⊤, ℕ, Bool, nat_lt, List, [], ◌∷◌, length, Option, None, Some, Ok, Err, IsSome}
use Rattle.std.specs.List.{flat_map}
use Rattle.std.specs.declared.result.Result.{Result}
use Rattle.byte_io.specs.Device.{SinkState, CountsFailure}
use Rattle.byte_folder.specs.declared.file.NamedFile.{NamedFile}
use Rattle.byte_folder.specs.declared.fault.MakeFolderFault.{MakeFolderFault}
use Rattle.byte_folder.specs.declared.fault.MakeFolderFault.TheVariants as make

-- a file of a folder
pub record File : Type 0 where
  pub name : List ℕ
  pub bytes : List ℕ

-- a file of the program, as contracts see it
abbrev pub seen : NamedFile → File
seen f = record { name = f.name.items; bytes = f.bytes.items }

-- its name has more than 255 bytes
abbrev pub is_long : File → Bool
is_long f = nat_lt 255 (length f.name)

-- the bytes of all files, one file after another
abbrev pub contents : List File → List ℕ
contents fs = flat_map (λ f. f.bytes) fs

-- the folder with the name, and the new folder, each with its files in the order in which they were made
pub record Folders : Type 0 where
  pub stands : Option (List File)
  pub beside : Option (List File)
  -- how often the new folder could not be removed
  pub stuck : ℕ

-- the counts of calls and the bytes written to the new folder's files; and the folders, if the place reports them
pub record FolderState : Type 0 where
  pub sink : SinkState
  pub folders : Option Folders

-- the folders are not known
abbrev pub untold : SinkState → FolderState
untold sink = record { sink = sink; folders = None }

-- the folders changed in this way, if the place reports them
abbrev pub IfReported : (Folders → Folders → Type 0) → Option Folders → Option Folders → Type 0
IfReported P None new = ⊤
IfReported P (Some old) None = ⊥
IfReported P (Some old) (Some new) = P old new

-- there is no folder, or an empty one
abbrev pub IsFree : Option (List File) → Type 0
IsFree None = ⊤
IsFree (Some fs) = fs ≡ []

-- an empty folder was made beside, where none was, and the name is free; or nothing changed. `Exists` comes exactly if there
-- was a new folder
abbrev pub IsMade : {T : Type 0} → Result T MakeFolderFault → Folders → Folders → Type 0
IsMade (Ok t) old new = IsFree old.stands × (old.beside ≡ None) × (new.beside ≡ Some []) × (new.stands ≡ old.stands) × (new.stuck ≡ old.stuck)
IsMade (Err make.NotOpened) old new = (new ≡ old) × (old.beside ≡ None)
IsMade (Err make.Exists) old new = (new ≡ old) × IsSome old.beside

-- the folder has one more file
abbrev pub Gains : File → Option (List File) → Option (List File) → Type 0
Gains f None new = ⊥
Gains f (Some fs) new = new ≡ Some (fs ++ f ∷ [])

-- the new folder has the file; or it may have a part of it
abbrev pub IsAdded : {T E : Type 0} → Result T E → List ℕ → List ℕ → Folders → Folders → Type 0
IsAdded (Ok t) name bytes old new = Gains (record { name = name; bytes = bytes }) old.beside new.beside × (new.stands ≡ old.stands) × (new.stuck ≡ old.stuck)
IsAdded (Err e) name bytes old new = (new.stands ≡ old.stands) × (new.stuck ≡ old.stuck)

-- the new folder has the name, which was free; or nothing changed
abbrev pub IsPut : {T E : Type 0} → Result T E → Folders → Folders → Type 0
IsPut (Ok t) old new = IsFree old.stands × (new.stands ≡ old.beside) × (new.beside ≡ None) × (new.stuck ≡ old.stuck)
IsPut (Err e) old new = new ≡ old

-- there is no new folder; or it could not be removed, which is counted
abbrev pub IsCleared : Folders → Folders → Type 0
IsCleared old new = ((new.beside ≡ None) × (new.stuck ≡ old.stuck)) ⊎ (new.stuck ≡ old.stuck + 1)

-- the new folder was removed
abbrev pub IsRemoved : Folders → Folders → Type 0
IsRemoved old new = (new.stands ≡ old.stands) × IsCleared old new

-- no byte moved, and a failure is counted at an `Err`
pub record CountsOnly {T E : Type 0} (result : Result T E) (old new : SinkState) : Type 0 where
  pub written : new.written ≡ old.written
  pub taken : new.taken ≡ old.taken
  pub failures : CountsFailure result old.failures new.failures
  pub stalls : new.stalls ≡ old.stalls
  pub openings : new.openings ≡ old.openings
