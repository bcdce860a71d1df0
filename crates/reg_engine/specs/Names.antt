-- The names of the faults of commands, and the ids and places that they name.
use Rattle.std.specs.Prelude.{ℕ, List, Option, Some, None, codes}
use Rattle.wkt_crs.specs.declared.fault.Unspelled.TheVariants as unspelled
use Rattle.wkt_crs.specs.Unspelled.{name_of, place_of}
use Rattle.reg_op.specs.Ids.{Id}
use Rattle.reg_file.specs.Names.{file_name}
use Rattle.reg_office.specs.Names.{office_name, office_id}
use Rattle.byte_office.specs.declared.fault.OfficeFileFault.TheVariants as note
use Rattle.reg_engine.specs.declared.fault.Refusal.{Refusal}
use Rattle.reg_engine.specs.declared.fault.Refusal.TheVariants as refusal
use Rattle.reg_engine.specs.declared.fault.InputFault.{InputFault}
use Rattle.reg_engine.specs.declared.fault.InputFault.TheVariants as file
use Rattle.reg_engine.specs.declared.fault.OutFault.{OutFault}
use Rattle.reg_engine.specs.declared.fault.OutFault.TheVariants as out
use Rattle.reg_engine.specs.declared.fault.ShelfProblem.{ShelfProblem}
use Rattle.reg_engine.specs.declared.fault.ShelfProblem.TheVariants as problem
use Rattle.reg_engine.specs.declared.fault.CliFault.{CliFault}
use Rattle.reg_engine.specs.declared.fault.CliFault.TheVariants as cli

-- a refusal
abbrev pub refusal_name : Refusal → List ℕ
refusal_name (refusal.Text f) = name_of (unspelled.Text f)
refusal_name (refusal.Slot f) = name_of (unspelled.Slot f)
refusal_name (refusal.Broken c at) = codes "Broken"
refusal_name refusal.NoIdentifier = codes "NoIdentifier"
refusal_name refusal.CanonicalTooLong = codes "CanonicalTooLong"
refusal_name (refusal.Clash id) = codes "Clash"
refusal_name (refusal.Basis id) = codes "Basis"
refusal_name (refusal.HasNote id) = codes "HasNote"
refusal_name (refusal.Office f) = office_name f
refusal_name refusal.BadId = codes "BadId"
refusal_name refusal.BadReplica = codes "BadReplica"
refusal_name refusal.BadSize = codes "BadSize"
refusal_name refusal.NoEntry = codes "NoEntry"
refusal_name (refusal.Several id) = codes "Several"
refusal_name refusal.Unsettled = codes "Unsettled"
refusal_name (refusal.KeyTaken id) = codes "KeyTaken"
refusal_name (refusal.Behind id) = codes "Behind"
refusal_name (refusal.Forged id) = codes "Forged"

-- its place in a text, and the id that it names
abbrev pub refusal_place : Refusal → Option ℕ
refusal_place (refusal.Text f) = place_of (unspelled.Text f)
refusal_place (refusal.Slot f) = place_of (unspelled.Slot f)
refusal_place (refusal.Broken c at) = Some at
refusal_place r = None

abbrev pub refusal_id : Refusal → Option Id
refusal_id (refusal.Clash id) = Some id
refusal_id (refusal.Basis id) = Some id
refusal_id (refusal.HasNote id) = Some id
refusal_id (refusal.Office f) = office_id f
refusal_id (refusal.Several id) = Some id
refusal_id (refusal.KeyTaken id) = Some id
refusal_id (refusal.Behind id) = Some id
refusal_id (refusal.Forged id) = Some id
refusal_id r = None

-- an input file
abbrev pub input_name : InputFault → List ℕ
input_name file.NotOpened = codes "NotOpened"
input_name (file.ReadFailed at) = codes "ReadFailed"
input_name file.TooLarge = codes "TooLarge"
input_name (file.BadFile f at) = file_name f
input_name file.Busy = codes "Busy"
input_name file.NotOffice = codes "NotOffice"

abbrev pub input_place : InputFault → Option ℕ
input_place (file.ReadFailed at) = Some at
input_place (file.BadFile f at) = Some at
input_place f = None

-- the output
abbrev pub out_name : OutFault → List ℕ
out_name out.NotOpened = codes "NotOpened"
out_name out.NewExists = codes "NewExists"
out_name out.TooLarge = codes "TooLarge"
out_name (out.WriteFailed at) = codes "WriteFailed"
out_name (out.ReadFailed at) = codes "ReadFailed"
out_name out.Changed = codes "Changed"
out_name out.NotSynced = codes "NotSynced"

abbrev pub out_place : OutFault → Option ℕ
out_place (out.WriteFailed at) = Some at
out_place (out.ReadFailed at) = Some at
out_place f = None

-- a shelf
abbrev pub problem_name : ShelfProblem → List ℕ
problem_name problem.NotOpened = codes "NotOpened"
problem_name problem.Busy = codes "Busy"
problem_name problem.NotLocked = codes "NotLocked"
problem_name problem.NotShelf = codes "NotShelf"
problem_name problem.TooLarge = codes "TooLarge"
problem_name problem.DiskFailed = codes "DiskFailed"

-- a command: the name of its fault
abbrev pub fault_name : CliFault → List ℕ
fault_name (cli.Refused r) = refusal_name r
fault_name (cli.File k f) = input_name f
fault_name (cli.Out f) = out_name f
fault_name cli.Memory = codes "Memory"
fault_name (cli.Shelf p) = problem_name p
fault_name (cli.Office note.NotOpened) = codes "NotOpened"
fault_name (cli.Office note.TooLarge) = codes "TooLarge"
fault_name (cli.Office (note.WriteFailed at)) = codes "WriteFailed"

abbrev pub fault_place : CliFault → Option ℕ
fault_place (cli.Refused r) = refusal_place r
fault_place (cli.File k f) = input_place f
fault_place (cli.Out f) = out_place f
fault_place (cli.Office (note.WriteFailed at)) = Some at
fault_place f = None

abbrev pub fault_id : CliFault → Option Id
fault_id (cli.Refused r) = refusal_id r
fault_id f = None
