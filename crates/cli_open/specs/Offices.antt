-- An office file that is opened.
use Rattle.std.specs.Prelude.{◌≡◌, ◌+◌, Option, Some, None}
use Rattle.byte_out.specs.Place.{PlaceState, IfReported, IsRemoved}
use Rattle.reg_journal.specs.Journal.{Journal}
use Rattle.cli_open.specs.declared.offices.OpenOffice.{OpenOffice}

-- a new file was made
abbrev pub Makes : PlaceState → PlaceState → Type 0
Makes old new = new.sink.openings ≡ old.sink.openings + 1

-- none was
abbrev pub MakesNone : PlaceState → PlaceState → Type 0
MakesNone old new = new.sink.openings ≡ old.sink.openings

-- what an office has made, if it has an office file
abbrev pub office_made : {Q : Type 0} → Option (OpenOffice Q) → Option Journal
office_made None = None
office_made (Some office) = Some office.file

-- the new file of the office file was removed, if there is an office file
abbrev pub IsClosed : {Q : Type 0} → (Q → PlaceState) → Option (OpenOffice Q) → Option (OpenOffice Q) → Type 0
IsClosed state None new = new ≡ None
IsClosed state (Some old) None = ⊥
IsClosed state (Some old) (Some new) = (new.file ≡ old.file) × IfReported IsRemoved (state old.place).files (state new.place).files
