-- The registers that the commands of an office make, and why they make none.
use Rattle.std.specs.Prelude.{◌≡◌, ◌<◌, [], ◌∷◌, ℕ, List, length, Err}
use Rattle.byte_io.specs.Device.{SourceState}
use Rattle.crs_value.specs.declared.crs.Crs.{Crs}
use Rattle.wkt_crs.specs.declared.fault.ReadFault.TheVariants as read
use Rattle.wkt_crs.specs.Spells.{canon}
use Rattle.wkt_crs.specs.Definition.{HasNone, IsDefinition}
use Rattle.wkt_crs.specs.declared.source.DefineFromFault.{DefineFromFault}
use Rattle.wkt_crs.specs.Source.{Finds, Refuses, FailsAt, RunsOut, IsDefineFromFault}
use Rattle.reg_op.specs.Ids.{Id}
use Rattle.reg_op.specs.Contents.{Content}
use Rattle.reg_op.specs.declared.operation.OpBody.{OpBody as Body}
use Rattle.reg_op.specs.declared.operation.OpBody.TheVariants.{Enter}
use Rattle.reg_office.specs.declared.fault.OfficeFault.{OfficeFault}
use Rattle.reg_office.specs.declared.fault.OfficeFault.TheVariants as office
use Rattle.reg_office.specs.Making.{made}
use Rattle.reg_office.specs.Commands.{Does}
use Rattle.reg_engine.specs.declared.fault.InputFault.TheVariants as file
use Rattle.reg_engine.specs.declared.fault.Refusal.{Refusal}
use Rattle.reg_engine.specs.declared.fault.Refusal.TheVariants as refusal
use Rattle.reg_engine.specs.declared.fault.CliFault.{CliFault}
use Rattle.reg_engine.specs.declared.fault.CliFault.TheVariants as cli
use Rattle.reg_engine.specs.Fault.{office_fault, definition_fault}
use Rattle.reg_engine.specs.Outputs.{id_lines}

-- ---- operations with these bodies

-- from the first content the office makes the second one; the lines are those of the new ids
abbrev pub Makes : List ℕ → List ℕ → List Body → Content → Content → List ℕ → Type 0
Makes replica note bodies x y lines = (ids : List Id) × Does x replica note bodies y ids × (lines ≡ id_lines ids)

-- the office makes nothing, for this reason
abbrev pub IsRefused : Content → List ℕ → List ℕ → List Body → Refusal → Type 0
IsRefused x replica note bodies r = (f : OfficeFault) × (made x replica note bodies ≡ Err f) × (office_fault f ≡ cli.Refused r)

-- or memory ran out
abbrev pub CannotMake : List ℕ → List ℕ → List Body → Content → CliFault → Type 0
CannotMake replica note bodies x (cli.Refused r) = IsRefused x replica note bodies r
CannotMake replica note bodies x cli.Memory = Unit {0}
CannotMake replica note bodies x f = ⊥

-- ---- an entry

-- the text spells a value that can be a definition: it has an identifier, and its canonical text is not too long
abbrev pub ReadsDefinition : Crs → SourceState → SourceState → Type 0
ReadsDefinition v old new = Finds old new v × IsDefinition (canon v)

-- and the office enters its canonical text
abbrev pub Enters : List ℕ → List ℕ → SourceState → SourceState → Content → Content → List ℕ → Type 0
Enters replica note old new x y lines = (v : Crs) × ReadsDefinition v old new × Makes replica note (Enter (canon v) ∷ []) x y lines

-- the source gives no text of a definition; a fault of its file is that of the file with this number
abbrev pub CannotDefine : ℕ → SourceState → SourceState → CliFault → Type 0
CannotDefine number old new f = (g : DefineFromFault) × IsDefineFromFault old new g × (f ≡ definition_fault number g)

-- why a value is not entered, in any register
abbrev pub IsUndefined : Crs → Refusal → Type 0
IsUndefined v refusal.NoIdentifier = HasNone v
IsUndefined v refusal.CanonicalTooLong = (¬ (HasNone v)) × (65536 < length (canon v))
IsUndefined v r = ⊥

-- the first fault of the text; or why its value is not entered; or why the office refuses it
abbrev pub IsUnentered : List ℕ → List ℕ → SourceState → SourceState → Content → Refusal → Type 0
IsUnentered replica note old new x (refusal.Text f) = Refuses old new (read.Text f)
IsUnentered replica note old new x (refusal.Slot f) = Refuses old new (read.Slot f)
IsUnentered replica note old new x (refusal.Broken c place) = Refuses old new (read.Broken c place)
IsUnentered replica note old new x (refusal.Office office.NoteTooLong) = (v : Crs) × ReadsDefinition v old new
    × IsRefused x replica note (Enter (canon v) ∷ []) (refusal.Office office.NoteTooLong)
IsUnentered replica note old new x (refusal.Office office.CountSpent) = (v : Crs) × ReadsDefinition v old new
    × IsRefused x replica note (Enter (canon v) ∷ []) (refusal.Office office.CountSpent)
IsUnentered replica note old new x r = (v : Crs) × Finds old new v × IsUndefined v r

-- or the text's file, which has this number, was not read; or memory ran out
abbrev pub CannotEnter : List ℕ → List ℕ → ℕ → SourceState → SourceState → Content → CliFault → Type 0
CannotEnter replica note number old new x (cli.Refused r) = IsUnentered replica note old new x r
CannotEnter replica note number old new x (cli.File k (file.ReadFailed n)) = (k ≡ number) × FailsAt n old new
CannotEnter replica note number old new x cli.Memory = RunsOut old new
CannotEnter replica note number old new x f = ⊥
