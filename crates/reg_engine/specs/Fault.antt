-- The faults of commands: their exit statuses, and the faults of libraries that they report.
use Rattle.std.specs.Prelude.{ℕ, Bool, true, false}
use Rattle.byte_out.specs.declared.fault.ReplaceFault.{ReplaceFault}
use Rattle.byte_out.specs.declared.fault.ReplaceFault.TheVariants as replaced
use Rattle.wkt_crs.specs.declared.fault.ReadFault.TheVariants as read
use Rattle.wkt_crs.specs.Unspelled.{as_read}
use Rattle.wkt_crs.specs.declared.source.ReadFromFault.{ReadFromFault}
use Rattle.wkt_crs.specs.declared.source.ReadFromFault.TheVariants as from
use Rattle.wkt_crs.specs.declared.definition.DefinitionFault.TheVariants as undefined
use Rattle.wkt_crs.specs.declared.source.DefineFromFault.{DefineFromFault}
use Rattle.wkt_crs.specs.declared.source.DefineFromFault.TheVariants as define
use Rattle.reg_file.specs.declared.fault.ReadFileFault.{ReadFileFault}
use Rattle.reg_file.specs.declared.fault.ReadFileFault.TheVariants as reading
use Rattle.reg_file.specs.declared.fault.WriteFileFault.{WriteFileFault}
use Rattle.reg_file.specs.declared.fault.WriteFileFault.TheVariants as writing
use Rattle.reg_file.specs.declared.fault.FirstFileFault.{FirstFileFault}
use Rattle.reg_file.specs.declared.fault.FirstFileFault.TheVariants as first
use Rattle.reg_office.specs.declared.fault.OfficeFault.{OfficeFault}
use Rattle.reg_office.specs.declared.fault.OfficeFault.TheVariants as office
use Rattle.reg_state.specs.declared.piece.PieceFault.{PieceFault}
use Rattle.reg_state.specs.declared.piece.PieceFault.TheVariants as piece
use Rattle.byte_shelf.specs.declared.fault.ShelfFault.{ShelfFault}
use Rattle.byte_shelf.specs.declared.fault.ShelfFault.TheVariants as shelf
use Rattle.reg_engine.specs.declared.fault.Refusal.TheVariants as refusal
use Rattle.reg_engine.specs.declared.fault.InputFault.TheVariants as file
use Rattle.reg_engine.specs.declared.fault.OutFault.TheVariants as out
use Rattle.reg_engine.specs.declared.fault.ShelfProblem.TheVariants as problem
use Rattle.reg_engine.specs.declared.fault.CliFault.{CliFault}
use Rattle.reg_engine.specs.declared.fault.CliFault.TheVariants as cli

-- the exit status for a fault
abbrev pub status_of : CliFault → ℕ
status_of (cli.Refused r) = 1
status_of (cli.File number f) = 3
status_of (cli.Out f) = 3
status_of cli.Memory = 4
status_of (cli.Shelf p) = 3
status_of (cli.Office t) = 3

-- whether the fault comes after the new register is kept
abbrev pub is_after : CliFault → Bool
is_after (cli.Out out.NotSynced) = true
is_after f = false

-- the fault of a command that read its text from the file with this number
abbrev pub text_fault : ℕ → ReadFromFault → CliFault
text_fault number (from.ReadFailed n) = cli.File number (file.ReadFailed n)
text_fault number (from.Refused (read.Text f)) = cli.Refused (refusal.Text f)
text_fault number (from.Refused (read.Slot f)) = cli.Refused (refusal.Slot f)
text_fault number (from.Refused (read.Broken c place)) = cli.Refused (refusal.Broken c place)
text_fault number (from.Refused read.Memory) = cli.Memory

-- the fault of a command that made a definition from its text in the file with this number, which need not be canonical
abbrev pub definition_fault : ℕ → DefineFromFault → CliFault
definition_fault number (define.ReadFailed n) = text_fault number (from.ReadFailed n)
definition_fault number (define.Refused (undefined.Read f)) = text_fault number (from.Refused (as_read f))
definition_fault number (define.Refused undefined.NoIdentifier) = cli.Refused refusal.NoIdentifier
definition_fault number (define.Refused undefined.CanonicalTooLong) = cli.Refused refusal.CanonicalTooLong
definition_fault number (define.Refused undefined.NotCanonical) = cli.Memory
definition_fault number (define.Refused undefined.Memory) = cli.Memory

-- the fault of a command that read the file with this number
abbrev pub file_fault : ℕ → ReadFileFault → CliFault
file_fault number (reading.File f place) = cli.File number (file.BadFile f place)
file_fault number reading.TooLarge = cli.File number file.TooLarge
file_fault number (reading.ReadFailed n) = cli.File number (file.ReadFailed n)
file_fault number reading.Memory = cli.Memory

-- the fault of a command that wrote a file; one of version 1
abbrev pub write_fault : WriteFileFault → CliFault
write_fault writing.TooLarge = cli.Out out.TooLarge
write_fault (writing.WriteFailed n) = cli.Out (out.WriteFailed n)
write_fault writing.Memory = cli.Memory

abbrev pub first_fault : FirstFileFault → CliFault
first_fault (first.HasNote id) = cli.Refused (refusal.HasNote id)
first_fault (first.Write f) = write_fault f

-- the fault of a command that put a file in a place
abbrev pub replace_fault : ReplaceFault → CliFault
replace_fault replaced.NotOpened = cli.Out out.NotOpened
replace_fault replaced.NewExists = cli.Out out.NewExists
replace_fault (replaced.WriteFailed n) = cli.Out (out.WriteFailed n)
replace_fault (replaced.ReadFailed n) = cli.Out (out.ReadFailed n)
replace_fault replaced.Changed = cli.Out out.Changed
replace_fault replaced.NotSynced = cli.Out out.NotSynced

-- the fault of a command of an office
abbrev pub office_fault : OfficeFault → CliFault
office_fault office.Memory = cli.Memory
office_fault f = cli.Refused (refusal.Office f)

-- the fault of a command that joined a piece
abbrev pub piece_fault : PieceFault → CliFault
piece_fault (piece.Basis id) = cli.Refused (refusal.Basis id)
piece_fault (piece.Clash id) = cli.Refused (refusal.Clash id)
piece_fault piece.Memory = cli.Memory

-- the fault of a command that called on a shelf
abbrev pub shelf_fault : ShelfFault → CliFault
shelf_fault shelf.BadSize = cli.Refused refusal.BadSize
shelf_fault shelf.TooLarge = cli.Shelf problem.TooLarge
shelf_fault shelf.NotShelf = cli.Shelf problem.NotShelf
shelf_fault shelf.Memory = cli.Memory
shelf_fault shelf.DiskFailed = cli.Shelf problem.DiskFailed
