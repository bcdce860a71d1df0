-- Replacing an office file whose new file is made already, and empty.
use Rattle.std.specs.Prelude.{◌≡◌, ◌⊎◌, ◌+◌, ◌≤◌, ◌++◌, true, ℕ, List, [], Option, Some, None, length}
use Rattle.std.specs.Io.KnownBytes.{Appends}
use Rattle.byte_io.specs.Device.{SinkState}
use Rattle.byte_io.specs.Whole.{WritesAll, IsCutAt}
use Rattle.byte_out.specs.Place.{Files, PlaceState, IfReported}
use Rattle.byte_out.specs.Replace.{IsKept, ReportsNone}
use Rattle.byte_office.specs.declared.fault.OfficeFileFault.{OfficeFileFault}
use Rattle.byte_office.specs.declared.fault.OfficeFileFault.TheVariants as fault

-- the office file has this text, and no new file is left; no stop left a part of the text there
pub record HasText (text : List ℕ) (old new : Files) : Type 0 where
  pub stands : new.stands ≡ Some text
  pub beside : new.beside ≡ None
  pub same_torn : new.torn ≡ old.torn
  pub same_stuck : new.stuck ≡ old.stuck

-- all of the text was written, and then a step failed
pub record FailsAtEnd (text : List ℕ) (old new : SinkState) : Type 0 where
  pub taken : new.taken ≡ old.taken ++ text
  pub appended : Appends old.written new.written text
  pub failed : new.failures ≡ old.failures + 1
  pub stalls : new.stalls ≡ old.stalls
  pub openings : new.openings ≡ old.openings

-- the text was written to the new file, which is the office file now, also after a stop
abbrev pub Notes : List ℕ → PlaceState → PlaceState → Type 0
Notes text old new = WritesAll text old.sink new.sink
    × IfReported (λ f g. f.beside ≡ Some [] → HasText text f g × (g.landed ≡ true)) old.files new.files

-- the old office file is there: the new one did not get its name, or exactly its first n bytes were written, or its sync
-- failed; or the new one is there, and a stop may leave the old one. A place that does not report its files may also lose the new
-- one to another program, or write in place
abbrev pub IsUnnoted : List ℕ → PlaceState → PlaceState → OfficeFileFault → Type 0
IsUnnoted text old new fault.NotOpened = (FailsAtEnd text old.sink new.sink × IfReported IsKept old.files new.files)
    ⊎ (WritesAll text old.sink new.sink × ReportsNone old new)
IsUnnoted text old new fault.TooLarge = ⊥
IsUnnoted text old new (fault.WriteFailed n) = (IsCutAt n text old.sink new.sink × IfReported IsKept old.files new.files)
    ⊎ ((n ≡ length text) × FailsAtEnd text old.sink new.sink
    × (IfReported IsKept old.files new.files ⊎ IfReported (λ f g. f.beside ≡ Some [] → HasText text f g) old.files new.files))
    ⊎ ((n ≤ length text) × FailsAtEnd text old.sink new.sink × ReportsNone old new)

-- the same if there is a text; otherwise nothing was done
abbrev pub NotesIf : Option (List ℕ) → PlaceState → PlaceState → Type 0
NotesIf (Some text) old new = Notes text old new
NotesIf None old new = new ≡ old

abbrev pub IsUnnotedIf : Option (List ℕ) → PlaceState → PlaceState → OfficeFileFault → Type 0
IsUnnotedIf (Some text) old new f = IsUnnoted text old new f
IsUnnotedIf None old new f = ⊥
