-- The state of the place of a file as contracts see it, and the effect of each call.
use Rattle.std.specs.Prelude.{◌≡◌, ◌⊎◌, ◌+◌, ◌≤◌, ⊤, [], ℕ, Bool, true, false, List, Option, None, Some, Ok, Err, IsSome, length, take, if◌then◌else◌}
use Rattle.std.specs.declared.result.Result.{Result}
use Rattle.std.specs.Io.KnownBytes.{Appends}
use Rattle.byte_io.specs.Device.{SinkState, CountsFailure}
use Rattle.byte_io.specs.declared.fault.WriteFault.{WriteFault}
use Rattle.byte_out.specs.declared.fault.MakeFault.{MakeFault}
use Rattle.byte_out.specs.declared.fault.MakeFault.TheVariants as make
use Rattle.byte_out.specs.declared.fault.CompareFault.{CompareFault}
use Rattle.byte_out.specs.declared.fault.CompareFault.TheVariants as other
use Rattle.byte_out.specs.declared.fault.PutFault.{PutFault}
use Rattle.byte_out.specs.declared.fault.PutFault.TheVariants as put

-- the file with the name, and the new file
pub record Files : Type 0 where
  -- the file with the name, if there is one
  pub stands : Option (List ℕ)
  -- the new file. One that a dead command left, and that is removed, counts as none
  pub beside : Option (List ℕ)
  -- whether a stop leaves the new file whole
  pub sure : Bool
  -- whether the file with the name was found to be the one that was read, since the new file was made
  pub same : Bool
  -- whether a stop so far might have left part of a new file at the name
  pub torn : Bool
  -- whether a stop leaves the file with the name there, not the one before it
  pub landed : Bool
  -- how often the new file could not be removed
  pub stuck : ℕ

-- the counts of calls and the bytes written to the new file; and the files, if the place reports them
pub record PlaceState : Type 0 where
  pub sink : SinkState
  pub files : Option Files

-- the files are not known
abbrev pub untold : SinkState → PlaceState
untold sink = record { sink = sink; files = None }

-- the files changed in this way, if the place reports them
abbrev pub IfReported : (Files → Files → Type 0) → Option Files → Option Files → Type 0
IfReported P None new = ⊤
IfReported P (Some old) None = ⊥
IfReported P (Some old) (Some new) = P old new

-- the file with the name is unchanged, and so are the files that a stop might have left there
pub record Stays (old new : Files) : Type 0 where
  pub same_file : new.stands ≡ old.stands
  pub same_torn : new.torn ≡ old.torn
  pub same_landed : new.landed ≡ old.landed

-- an empty file was made beside, where none was; or nothing changed: none was beside and none could be made, or one was
abbrev pub IsMade : {T : Type 0} → Result T MakeFault → Files → Files → Type 0
IsMade (Ok t) old new = Stays old new × (old.beside ≡ None) × (new.beside ≡ Some []) × (new.same ≡ false) × (new.stuck ≡ old.stuck)
IsMade (Err make.NotOpened) old new = (new ≡ old) × (old.beside ≡ None)
IsMade (Err make.Exists) old new = (new ≡ old) × IsSome old.beside

-- the new file grew by all these bytes; or it has some of them
abbrev pub IsFilled : {T : Type 0} → Result T WriteFault → List ℕ → Files → Files → Type 0
IsFilled (Ok t) bytes old new = Stays old new × Appends old.beside new.beside bytes × (new.same ≡ old.same) × (new.stuck ≡ old.stuck)
IsFilled (Err e) bytes old new = Stays old new × (new.stuck ≡ old.stuck)

-- the new file is synced; or nothing is known
abbrev pub IsSynced : {T E : Type 0} → Result T E → Files → Files → Type 0
IsSynced (Ok t) old new = Stays old new × (new.beside ≡ old.beside) × (new.sure ≡ true) × (new.same ≡ old.same) × (new.stuck ≡ old.stuck)
IsSynced (Err e) old new = Stays old new × (new.beside ≡ old.beside) × (new.stuck ≡ old.stuck)

-- the file was looked at, and is or is not known to be the one that was read; nothing else changed
abbrev pub Looks : Bool → Files → Files → Type 0
Looks same old new = Stays old new × (new.beside ≡ old.beside) × (new.sure ≡ old.sure) × (IsSome old.beside → new.same ≡ same) × (new.stuck ≡ old.stuck)

-- the first n bytes of the file are the first n bytes of those that were read
abbrev pub IsCutAfter : ℕ → List ℕ → Option (List ℕ) → Type 0
IsCutAfter n read None = ⊥
IsCutAfter n read (Some file) = (n ≤ length file) × (take n file ≡ take n read)

-- the file with the name has exactly these bytes; or it has others, or is gone; or it is there and could not be opened; or
-- reading it failed after n bytes, which were the same
abbrev pub IsCompared : {T : Type 0} → Result T CompareFault → List ℕ → Files → Files → Type 0
IsCompared (Ok t) read old new = Looks true old new × (old.stands ≡ Some read)
IsCompared (Err other.Changed) read old new = Looks false old new × (old.stands ≡ Some read → ⊥)
IsCompared (Err other.NotOpened) read old new = Looks false old new × IsSome old.stands
IsCompared (Err (other.ReadFailed n)) read old new = Looks false old new × IsCutAfter n read old.stands

-- the new file has the name, or the old one. If the new file is not synced, a stop leaves a part of it. Where the files are
-- reported, no other program takes the new file away, and no file is written in place
abbrev pub IsPut : {T : Type 0} → Result T PutFault → Files → Files → Type 0
IsPut (Ok t) old new = (new.stands ≡ old.beside) × (new.beside ≡ None) × (new.torn ≡ (if old.sure then old.torn else true)) × (new.landed ≡ false)
    × (new.same ≡ old.same) × (new.stuck ≡ old.stuck)
IsPut (Err put.NotOpened) old new = (new.stands ≡ old.stands) × (new.beside ≡ old.beside) × (new.torn ≡ (if old.sure then old.torn else true))
    × (new.landed ≡ old.landed) × (new.stuck ≡ old.stuck)
IsPut (Err put.Changed) old new = ⊥
IsPut (Err (put.WriteFailed n)) old new = ⊥

-- the file with the name is there after a stop, too; or nothing changed
abbrev pub IsLanded : {T E : Type 0} → Result T E → Files → Files → Type 0
IsLanded (Ok t) old new = (new.stands ≡ old.stands) × (new.beside ≡ old.beside) × (new.torn ≡ old.torn) × (new.landed ≡ true) × (new.same ≡ old.same)
    × (new.stuck ≡ old.stuck)
IsLanded (Err e) old new = new ≡ old

-- there is no new file; or it could not be removed, which is counted
abbrev pub IsCleared : Files → Files → Type 0
IsCleared old new = ((new.beside ≡ None) × (new.stuck ≡ old.stuck)) ⊎ (new.stuck ≡ old.stuck + 1)

-- the new file was removed
abbrev pub IsRemoved : Files → Files → Type 0
IsRemoved old new = Stays old new × IsCleared old new

-- no byte moved, and a failure is counted at an `Err`
pub record CountsOnly {T E : Type 0} (result : Result T E) (old new : SinkState) : Type 0 where
  pub written : new.written ≡ old.written
  pub taken : new.taken ≡ old.taken
  pub failures : CountsFailure result old.failures new.failures
  pub stalls : new.stalls ≡ old.stalls
  pub openings : new.openings ≡ old.openings

-- no byte moved, and one failure is counted
pub record FailsOnly (old new : SinkState) : Type 0 where
  pub written : new.written ≡ old.written
  pub taken : new.taken ≡ old.taken
  pub failures : new.failures ≡ old.failures + 1
  pub stalls : new.stalls ≡ old.stalls
  pub openings : new.openings ≡ old.openings

-- a comparison fails only if the device did
abbrev pub ComparesOnly : {T : Type 0} → Result T CompareFault → SinkState → SinkState → Type 0
ComparesOnly (Ok t) old new = new ≡ old
ComparesOnly (Err other.Changed) old new = new ≡ old
ComparesOnly (Err other.NotOpened) old new = FailsOnly old new
ComparesOnly (Err (other.ReadFailed n)) old new = FailsOnly old new

-- of a file that is written in place, at most all the bytes were written
abbrev pub Fits : PutFault → List ℕ → Type 0
Fits (put.WriteFailed n) bytes = n ≤ length bytes
Fits f bytes = Unit {0}

-- the rename, too, fails only if the device did, or if the new file is another one
abbrev pub PutsOnly : {T : Type 0} → Result T PutFault → List ℕ → SinkState → SinkState → Type 0
PutsOnly (Ok t) bytes old new = new ≡ old
PutsOnly (Err put.Changed) bytes old new = new ≡ old
PutsOnly (Err put.NotOpened) bytes old new = FailsOnly old new
PutsOnly (Err (put.WriteFailed n)) bytes old new = FailsOnly old new × (n ≤ length bytes)
