-- A check of a text: its input and its output.
use Rattle.std.specs.Prelude.{◌≡◌, ◌++◌, ◌∷◌, [], ℕ, List}
use Rattle.byte_io.specs.Whole.{WritesAll, IsCutAt}
use Rattle.crs_value.specs.declared.crs.Crs.{Crs}
use Rattle.wkt_crs.specs.declared.fault.ReadFault.TheVariants as read
use Rattle.wkt_crs.specs.Spells.{canon}
use Rattle.wkt_crs.specs.Source.{Finds, Refuses, FailsAt, RunsOut}
use Rattle.reg_engine.specs.declared.fault.Refusal.TheVariants as refusal
use Rattle.reg_engine.specs.declared.fault.InputFault.TheVariants as file
use Rattle.reg_engine.specs.declared.fault.OutFault.TheVariants as out
use Rattle.reg_engine.specs.declared.fault.CliFault.{CliFault}
use Rattle.reg_engine.specs.declared.fault.CliFault.TheVariants as cli
use Rattle.reg_commands.specs.Devices.{Devices}

-- the canonical text of a value, and a newline
abbrev pub line_of : Crs → List ℕ
line_of v = canon v ++ (10 ∷ [])

-- the source's text spells a value, and exactly that value's line was written
abbrev pub IsPrinted : Devices → Devices → Type 0
IsPrinted old new = (v : Crs) × Finds old.source new.source v × WritesAll (line_of v) old.sink new.sink

-- the source's text spells a value, and exactly the first n bytes of its line were written, not all
abbrev pub IsCutShort : ℕ → Devices → Devices → Type 0
IsCutShort n old new = (v : Crs) × Finds old.source new.source v × IsCutAt n (line_of v) old.sink new.sink

-- the effect of a check, by its fault; if the text is not printed, nothing was written
abbrev pub IsCheckFault : Devices → Devices → CliFault → Type 0
IsCheckFault old new (cli.Refused (refusal.Text f)) = Refuses old.source new.source (read.Text f) × (new.sink ≡ old.sink)
IsCheckFault old new (cli.Refused (refusal.Slot f)) = Refuses old.source new.source (read.Slot f) × (new.sink ≡ old.sink)
IsCheckFault old new (cli.Refused (refusal.Broken c place)) = Refuses old.source new.source (read.Broken c place) × (new.sink ≡ old.sink)
IsCheckFault old new (cli.Refused r) = ⊥
IsCheckFault old new (cli.File number (file.ReadFailed n)) = (number ≡ 1) × FailsAt n old.source new.source × (new.sink ≡ old.sink)
IsCheckFault old new (cli.File number f) = ⊥
IsCheckFault old new (cli.Out (out.WriteFailed n)) = IsCutShort n old new
IsCheckFault old new (cli.Out f) = ⊥
IsCheckFault old new cli.Memory = RunsOut old.source new.source × (new.sink ≡ old.sink)
IsCheckFault old new (cli.Shelf p) = ⊥
IsCheckFault old new (cli.Office t) = ⊥
