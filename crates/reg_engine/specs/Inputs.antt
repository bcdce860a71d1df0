-- Registers, summaries and pieces from files.
use Rattle.std.specs.Prelude.{◌≡◌, ◌++◌, ◌∷◌, [], List, ℕ, ◌+◌, zero, suc, Option, Some, None}
use Rattle.byte_io.specs.Device.{SourceState}
use Rattle.byte_io.specs.Whole.{GivesAtMost}
use Rattle.reg_op.specs.Contents.{Content}
use Rattle.reg_op.specs.Pieces.{Piece}
use Rattle.reg_file.specs.Files.{most, IsReadFromFault, IsSeenReadFromFault}
use Rattle.reg_file.specs.Parts.{FindsPart, IsPartReadFromFault}
use Rattle.reg_file.specs.declared.parts.Part.{Part}
use Rattle.reg_file.specs.declared.parts.Part.TheVariants as part
use Rattle.reg_file.specs.declared.fault.ReadFileFault.{ReadFileFault}
use Rattle.reg_file.specs.declared.fault.ReadFileFault.TheVariants as reading
use Rattle.reg_engine.specs.declared.fault.InputFault.{InputFault}
use Rattle.reg_engine.specs.declared.fault.InputFault.TheVariants as file
use Rattle.reg_engine.specs.declared.fault.CliFault.{CliFault}
use Rattle.reg_engine.specs.declared.fault.CliFault.TheVariants as cli

-- the fault of reading a file, as it is reported
abbrev pub reading_fault : InputFault → Option ReadFileFault
reading_fault file.NotOpened = None
reading_fault (file.ReadFailed n) = Some (reading.ReadFailed n)
reading_fault file.TooLarge = Some reading.TooLarge
reading_fault (file.BadFile f place) = Some (reading.File f place)
reading_fault file.Busy = None
reading_fault file.NotOffice = None

abbrev pub IsFaultBy : (ReadFileFault → Type 0) → Option ReadFileFault → Type 0
IsFaultBy Is None = ⊥
IsFaultBy Is (Some f) = Is f

-- the source gave no register's file, for this reason; no summary's; neither a register's nor a piece's
abbrev pub IsFileFault : InputFault → SourceState → SourceState → Type 0
IsFileFault f old new = IsFaultBy (IsReadFromFault old new) (reading_fault f)

abbrev pub IsSummaryFault : InputFault → SourceState → SourceState → Type 0
IsSummaryFault f old new = IsFaultBy (IsSeenReadFromFault old new) (reading_fault f)

abbrev pub IsPartFault : InputFault → SourceState → SourceState → Type 0
IsPartFault f old new = IsFaultBy (IsPartReadFromFault old new) (reading_fault f)

-- the source gave some bytes, or none, and did not fail
abbrev pub NeverFails : SourceState → SourceState → Type 0
NeverFails old new = GivesAtMost (most + 1) old new

-- the effect of a failed command on the file with this number
abbrev pub IsUnread : ℕ → SourceState → SourceState → CliFault → Type 0
IsUnread number old new (cli.Refused r) = ⊥
IsUnread number old new (cli.File k f) = (k ≡ number) × IsFileFault f old new
IsUnread number old new (cli.Out f) = ⊥
IsUnread number old new cli.Memory = NeverFails old new
IsUnread number old new (cli.Shelf p) = ⊥
IsUnread number old new (cli.Office t) = ⊥

-- the effect of a failed command on the summary in the file with this number
abbrev pub IsSummaryUnread : ℕ → SourceState → SourceState → CliFault → Type 0
IsSummaryUnread number old new (cli.Refused r) = ⊥
IsSummaryUnread number old new (cli.File k f) = (k ≡ number) × IsSummaryFault f old new
IsSummaryUnread number old new (cli.Out f) = ⊥
IsSummaryUnread number old new cli.Memory = NeverFails old new
IsSummaryUnread number old new (cli.Shelf p) = ⊥
IsSummaryUnread number old new (cli.Office t) = ⊥

-- the effect on the register or the piece there
abbrev pub IsPartUnread : ℕ → SourceState → SourceState → CliFault → Type 0
IsPartUnread number old new (cli.Refused r) = ⊥
IsPartUnread number old new (cli.File k f) = (k ≡ number) × IsPartFault f old new
IsPartUnread number old new (cli.Out f) = ⊥
IsPartUnread number old new cli.Memory = NeverFails old new
IsPartUnread number old new (cli.Shelf p) = ⊥
IsPartUnread number old new (cli.Office t) = ⊥

-- ---- a list of sources, of registers and of pieces

-- each gave the file of its part
abbrev pub HoldAll : List SourceState → List SourceState → List Part → Type 0
HoldAll [] [] [] = Unit {0}
HoldAll [] [] (p ∷ ps) = ⊥
HoldAll [] (n ∷ ns) ps = ⊥
HoldAll (o ∷ os) [] ps = ⊥
HoldAll (o ∷ os) (n ∷ ns) [] = ⊥
HoldAll (o ∷ os) (n ∷ ns) (p ∷ ps) = FindsPart o n p × HoldAll os ns ps

-- the one of this number, from 1, has the fault; each before it gave the file of a part, and those after it gave nothing
abbrev pub StopsAt : ℕ → InputFault → List SourceState → List SourceState → Type 0
StopsAt zero f old new = ⊥
StopsAt (suc k) f [] new = ⊥
StopsAt (suc k) f (o ∷ os) [] = ⊥
StopsAt (suc zero) f (o ∷ os) (n ∷ ns) = IsPartFault f o n × (ns ≡ os)
StopsAt (suc (suc k)) f (o ∷ os) (n ∷ ns) = ((p : Part) × FindsPart o n p) × StopsAt (suc k) f os ns

-- none failed
abbrev pub NoneFails : List SourceState → List SourceState → Type 0
NoneFails [] [] = Unit {0}
NoneFails [] (n ∷ ns) = ⊥
NoneFails (o ∷ os) [] = ⊥
NoneFails (o ∷ os) (n ∷ ns) = NeverFails o n × NoneFails os ns

-- the files have the numbers from `next` on, and number k has the fault
abbrev pub StopsFrom : ℕ → ℕ → InputFault → List SourceState → List SourceState → Type 0
StopsFrom next k f old new = (n : ℕ) × (k + 1 ≡ next + n) × StopsAt n f old new

-- the effect of a failed command on its files, the first of which has the number `next`
abbrev pub AreUnread : ℕ → List SourceState → List SourceState → CliFault → Type 0
AreUnread next old new (cli.Refused r) = ⊥
AreUnread next old new (cli.File k f) = StopsFrom next k f old new
AreUnread next old new (cli.Out f) = ⊥
AreUnread next old new cli.Memory = NoneFails old new
AreUnread next old new (cli.Shelf p) = ⊥
AreUnread next old new (cli.Office t) = ⊥

-- ---- the registers and pieces that are joined

-- the registers among parts, and the pieces, each in order
abbrev pub registers : List Part → List Content
registers [] = []
registers (part.Register x ∷ ps) = x ∷ registers ps
registers (part.Piece p ∷ ps) = registers ps

abbrev pub pieces : List Part → List Piece
pieces [] = []
pieces (part.Register x ∷ ps) = pieces ps
pieces (part.Piece p ∷ ps) = p ∷ pieces ps

-- the sources gave the files of parts; after some registers and some pieces, those of the parts are all of these
abbrev pub GivePartsAfter : List Content → List Piece → List SourceState → List SourceState → List Content → List Piece → Type 0
GivePartsAfter some few old new xs qs = (ps : List Part) × HoldAll old new ps × (xs ≡ some ++ registers ps) × (qs ≡ few ++ pieces ps)

-- the sources gave the files of these registers and these pieces
abbrev pub GiveParts : List SourceState → List SourceState → List Content → List Piece → Type 0
GiveParts old new xs qs = GivePartsAfter [] [] old new xs qs
