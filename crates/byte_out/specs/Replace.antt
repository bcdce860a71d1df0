-- The effect of replacing a file by one with some bytes.
use Rattle.std.specs.Prelude.{◌≡◌, ◌⊎◌, ◌+◌, ◌≤◌, ◌++◌, ℕ, List, Option, None, Some, IsSome, true, length}
use Rattle.std.specs.Io.KnownBytes.{Appends}
use Rattle.byte_io.specs.Device.{SinkState}
use Rattle.byte_io.specs.Publish.{Publishes, IsPublishFault}
use Rattle.byte_io.specs.declared.fault.PublishFault.TheVariants as publish
use Rattle.byte_out.specs.Place.{Files, PlaceState, IfReported, Stays, IsCleared, IsCutAfter}
use Rattle.byte_out.specs.declared.fault.ReplaceFault.{ReplaceFault}
use Rattle.byte_out.specs.declared.fault.ReplaceFault.TheVariants as replace

-- the file with the name has exactly the bytes that were read from it; if it was not read, it may have any
abbrev pub Has : Option (List ℕ) → Files → Type 0
Has None f = Unit {0}
Has (Some read) f = f.stands ≡ Some read

-- that was found after the new file was made: from then on no other command can replace the file
abbrev pub Found : Option (List ℕ) → Files → Type 0
Found None f = Unit {0}
Found (Some read) f = f.same ≡ true

-- the new file has these bytes, and a stop leaves it whole; no file was beside, and the file with the name is the one that was read
pub record IsPrepared (read : Option (List ℕ)) (bytes : List ℕ) (old new : Files) : Type 0 where
  pub stays : Stays old new
  pub was_free : old.beside ≡ None
  pub beside : new.beside ≡ Some bytes
  pub sure : new.sure ≡ true
  pub same_stuck : new.stuck ≡ old.stuck
  pub has : Has read old
  pub found : Found read new

-- a file with these bytes has the name, in place of the one that was read, and there is no new file; no stop left a part of
-- them under the name
pub record IsReplaced (read : Option (List ℕ)) (bytes : List ℕ) (old new : Files) : Type 0 where
  pub stands : new.stands ≡ Some bytes
  pub beside : new.beside ≡ None
  pub same_torn : new.torn ≡ old.torn
  pub same_stuck : new.stuck ≡ old.stuck
  pub has : Has read old
  pub found : Found read new

-- the old file still has the name, and there is no new file
pub record IsKept (old new : Files) : Type 0 where
  pub stays : Stays old new
  pub cleared : IsCleared old new

-- it was opened once, all the bytes were written, and then it failed once
pub record FailsWhole (bytes : List ℕ) (old new : SinkState) : Type 0 where
  pub taken : new.taken ≡ old.taken ++ bytes
  pub appended : Appends old.written new.written bytes
  pub failed : new.failures ≡ old.failures + 1
  pub stalls : new.stalls ≡ old.stalls
  pub openings : new.openings ≡ old.openings + 1

-- all the bytes were written to the new file
abbrev pub Prepares : Option (List ℕ) → List ℕ → PlaceState → PlaceState → Type 0
Prepares read bytes old new = Publishes bytes old.sink new.sink × IfReported (IsPrepared read bytes) old.files new.files

-- all the bytes were written, and the new file has the name, in place of the one that was read; it has it after a stop, too
abbrev pub Replaces : Option (List ℕ) → List ℕ → PlaceState → PlaceState → Type 0
Replaces read bytes old new = Publishes bytes old.sink new.sink × IfReported (λ f g. IsReplaced read bytes f g × (g.landed ≡ true)) old.files new.files

-- the place does not report its files: only such a place writes a file in place, or loses its new file to another program
abbrev pub ReportsNone : PlaceState → PlaceState → Type 0
ReportsNone old new = IfReported (λ f g. ⊥) old.files new.files

-- the first n bytes of the old file are those that were read
abbrev pub IsCutReading : Option (List ℕ) → ℕ → Files → Type 0
IsCutReading None n f = ⊥
IsCutReading (Some read) n f = IsCutAfter n read f.stands

-- the outcome of each fault. Where the files are reported, the old file still has the name in each case but the last one
abbrev pub IsReplaceFault : Option (List ℕ) → List ℕ → PlaceState → PlaceState → ReplaceFault → Type 0
-- nothing was beside, and nothing was made; or the new file was whole, and the old one could not be opened again, or the new one
-- did not get its name
IsReplaceFault read bytes old new replace.NotOpened = (IsPublishFault bytes old.sink new.sink publish.NotOpened × IfReported (λ f g. (g ≡ f) × (f.beside ≡ None)) old.files new.files)
    ⊎ (FailsWhole bytes old.sink new.sink × IfReported (λ f g. IsKept f g × (f.beside ≡ None)) old.files new.files)
-- there was a new file
IsReplaceFault read bytes old new replace.NewExists = IsPublishFault bytes old.sink new.sink publish.NotOpened × IfReported (λ f g. (g ≡ f) × IsSome f.beside) old.files new.files
-- exactly the first n bytes were written, not all; or all were, and the sync failed; or the file was written in place
IsReplaceFault read bytes old new (replace.WriteFailed n) = (IsPublishFault bytes old.sink new.sink (publish.WriteFailed n) × IfReported IsKept old.files new.files)
    ⊎ ((n ≡ length bytes) × FailsWhole bytes old.sink new.sink × IfReported IsKept old.files new.files)
    ⊎ ((n ≤ length bytes) × FailsWhole bytes old.sink new.sink × ReportsNone old new)
-- the new file was whole, and n bytes of the old one could be read again, which were the same
IsReplaceFault read bytes old new (replace.ReadFailed n) = IsSome read × FailsWhole bytes old.sink new.sink
    × IfReported (λ f g. IsKept f g × (f.beside ≡ None) × IsCutReading read n f) old.files new.files
-- the new file was whole, and the file with the name is not the one that was read; or the new file is another one
IsReplaceFault read bytes old new replace.Changed = (IsSome read × Publishes bytes old.sink new.sink × IfReported (λ f g. IsKept f g × (Has read f → ⊥)) old.files new.files)
    ⊎ (Publishes bytes old.sink new.sink × ReportsNone old new)
-- the new file has the name; a stop may leave the old one
IsReplaceFault read bytes old new replace.NotSynced = FailsWhole bytes old.sink new.sink × IfReported (IsReplaced read bytes) old.files new.files
