-- The contents of files of registers and of pieces.
use Rattle.std.specs.Prelude.{ℕ, List}
use Rattle.byte_io.specs.Device.{SourceState}
use Rattle.reg_file.specs.declared.fault.ReadFileFault.{ReadFileFault}
use Rattle.reg_file.specs.declared.parts.Part.{Part}
use Rattle.reg_file.specs.declared.parts.Part.TheVariants as part
use Rattle.reg_file.specs.Reading.{HasPartFault}
use Rattle.reg_file.specs.Files.{ReadsAs, ReadsAsPiece, FindsBy, IsReadFaultBy, IsReadFromFaultBy}

-- the bytes are a file of the register or of the piece
abbrev pub ReadsAsPart : List ℕ → Part → Type 0
ReadsAsPart bytes (part.Register x) = ReadsAs bytes x
ReadsAsPart bytes (part.Piece p) = ReadsAsPiece bytes p

-- why bytes are read as neither
abbrev pub IsPartReadFault : List ℕ → ReadFileFault → Type 0
IsPartReadFault bytes f = IsReadFaultBy HasPartFault bytes f

abbrev pub FindsPart : SourceState → SourceState → Part → Type 0
FindsPart old new x = FindsBy ReadsAsPart old new x

abbrev pub IsPartReadFromFault : SourceState → SourceState → ReadFileFault → Type 0
IsPartReadFromFault old new f = IsReadFromFaultBy HasPartFault old new f
