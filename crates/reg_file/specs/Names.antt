-- The names and places of faults.
use Rattle.std.specs.Prelude.{ℕ, List, Option, Some, None, codes}
use Rattle.reg_op.specs.Ids.{Id}
use Rattle.reg_file.specs.declared.fault.FileFault.{FileFault}
use Rattle.reg_file.specs.declared.fault.FileFault.TheVariants as file
use Rattle.reg_file.specs.declared.fault.ReadFileFault.{ReadFileFault}
use Rattle.reg_file.specs.declared.fault.ReadFileFault.TheVariants as reading
use Rattle.reg_file.specs.declared.fault.WriteFileFault.{WriteFileFault}
use Rattle.reg_file.specs.declared.fault.WriteFileFault.TheVariants as writing
use Rattle.reg_file.specs.declared.fault.FirstFileFault.{FirstFileFault}
use Rattle.reg_file.specs.declared.fault.FirstFileFault.TheVariants as first

-- bytes that are not a file
abbrev pub file_name : FileFault → List ℕ
file_name file.Magic = codes "Magic"
file_name file.Version = codes "Version"
file_name file.Kind = codes "Kind"
file_name file.Truncated = codes "Truncated"
file_name file.Ranges = codes "Ranges"
file_name file.ReplicaOrder = codes "ReplicaOrder"
file_name file.OpOrder = codes "OpOrder"
file_name file.OpIdBad = codes "OpIdBad"
file_name file.OpKind = codes "OpKind"
file_name file.NoteTooLong = codes "NoteTooLong"
file_name file.NoteNotUtf8 = codes "NoteNotUtf8"
file_name file.NotSeen = codes "NotSeen"
file_name file.SameEntry = codes "SameEntry"
file_name (file.Definition f) = codes "Definition"
file_name file.NotCanonical = codes "NotCanonical"
file_name file.NotKept = codes "NotKept"
file_name file.Trailing = codes "Trailing"

-- a file that was not read: the name of its first fault, if it has one
abbrev pub read_name : ReadFileFault → List ℕ
read_name (reading.File f at) = file_name f
read_name reading.TooLarge = codes "TooLarge"
read_name (reading.ReadFailed at) = codes "ReadFailed"
read_name reading.Memory = codes "Memory"

abbrev pub read_place : ReadFileFault → Option ℕ
read_place (reading.File f at) = Some at
read_place reading.TooLarge = None
read_place (reading.ReadFailed at) = Some at
read_place reading.Memory = None

-- a file that was not written
abbrev pub write_name : WriteFileFault → List ℕ
write_name writing.TooLarge = codes "TooLarge"
write_name (writing.WriteFailed at) = codes "WriteFailed"
write_name writing.Memory = codes "Memory"

abbrev pub write_place : WriteFileFault → Option ℕ
write_place writing.TooLarge = None
write_place (writing.WriteFailed at) = Some at
write_place writing.Memory = None

-- one of version 1 that was not written
abbrev pub first_name : FirstFileFault → List ℕ
first_name (first.HasNote id) = codes "HasNote"
first_name (first.Write f) = write_name f

abbrev pub first_id : FirstFileFault → Option Id
first_id (first.HasNote id) = Some id
first_id (first.Write f) = None

abbrev pub first_place : FirstFileFault → Option ℕ
first_place (first.HasNote id) = None
first_place (first.Write f) = write_place f
