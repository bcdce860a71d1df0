-- The bytes that a file gave, or why it gave none.
use Rattle.std.specs.Prelude.{◌≡◌, ◌≤◌, ◌<◌, ◌+◌, ℕ, List, length}
use Rattle.byte_io.specs.Device.{SourceState}
use Rattle.byte_io.specs.Whole.{FailsAfter}
use Rattle.reg_file.specs.Files.{most, ReadsBytes}
use Rattle.reg_engine.specs.declared.fault.InputFault.{InputFault}
use Rattle.reg_engine.specs.declared.fault.InputFault.TheVariants as file
use Rattle.reg_engine.specs.declared.fault.CliFault.{CliFault}
use Rattle.reg_engine.specs.declared.fault.CliFault.TheVariants as cli
use Rattle.reg_engine.specs.Inputs.{NeverFails}

-- the source gave all its bytes, within the limit of a file
abbrev pub Gives : SourceState → SourceState → List ℕ → Type 0
Gives old new bytes = ReadsBytes old new bytes × (length bytes ≤ most)

-- or it did not, for this reason
abbrev pub IsFileFault : InputFault → SourceState → SourceState → Type 0
IsFileFault file.NotOpened old new = ⊥
IsFileFault (file.ReadFailed n) old new = FailsAfter n (most + 1) old new
IsFileFault file.TooLarge old new = (bytes : List ℕ) × ReadsBytes old new bytes × (most < length bytes)
IsFileFault (file.BadFile f place) old new = ⊥
IsFileFault file.Busy old new = ⊥
IsFileFault file.NotOffice old new = ⊥

-- why the file with this number was not read
abbrev pub IsUnread : ℕ → SourceState → SourceState → CliFault → Type 0
IsUnread number old new (cli.Refused r) = ⊥
IsUnread number old new (cli.File k f) = (k ≡ number) × IsFileFault f old new
IsUnread number old new (cli.Out f) = ⊥
IsUnread number old new cli.Memory = NeverFails old new
IsUnread number old new (cli.Shelf p) = ⊥
IsUnread number old new (cli.Office t) = ⊥
