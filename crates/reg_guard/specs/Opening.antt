-- Taking an office file before a command.
use Rattle.std.specs.Prelude.{◌≡◌, ◌+◌, [], Some, None, IsSome}
use Rattle.byte_io.specs.Device.{SourceState}
use Rattle.byte_out.specs.Place.{PlaceState, IfReported}
use Rattle.reg_journal.specs.Text.{IsUnfound}
use Rattle.reg_journal.specs.declared.fault.OpenFault.{OpenFault}
use Rattle.reg_journal.specs.declared.fault.OpenFault.TheVariants as opening
use Rattle.reg_engine.specs.declared.fault.InputFault.TheVariants as file
use Rattle.reg_engine.specs.declared.fault.CliFault.{CliFault}
use Rattle.reg_engine.specs.declared.fault.CliFault.TheVariants as cli

-- an empty new file was made, and there was none before
abbrev pub Locks : PlaceState → PlaceState → Type 0
Locks old new = (new.sink.openings ≡ old.sink.openings + 1)
    × IfReported (λ f g. (f.beside ≡ None) × (g.beside ≡ Some []) × (g.stands ≡ f.stands)) old.files new.files

-- there was one, or none could be made; nothing changed
abbrev pub IsUnlocked : PlaceState → PlaceState → CliFault → Type 0
IsUnlocked old new (cli.File k file.Busy) = (k ≡ 1) × (new.sink.openings ≡ old.sink.openings) × IfReported (λ f g. (g ≡ f) × IsSome f.beside) old.files new.files
IsUnlocked old new (cli.File k file.NotOpened) = (k ≡ 1) × (new.sink.openings ≡ old.sink.openings) × IfReported (λ f g. (g ≡ f) × (f.beside ≡ None)) old.files new.files
IsUnlocked old new f = ⊥

-- the fault of reading the office file, which is file 1
abbrev pub open_fault : OpenFault → CliFault
open_fault (opening.ReadFailed n) = cli.File 1 (file.ReadFailed n)
open_fault opening.TooLarge = cli.File 1 file.TooLarge
open_fault opening.NotOffice = cli.File 1 file.NotOffice
open_fault opening.Memory = cli.Memory

-- no office file was read, for this reason
abbrev pub IsUnfoundBy : SourceState → SourceState → CliFault → Type 0
IsUnfoundBy old new g = (f : OpenFault) × IsUnfound old new f × (g ≡ open_fault f)
