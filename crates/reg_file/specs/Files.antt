-- The files of contents, of summaries and of pieces, and the effects of reading and writing them over a device.
use Rattle.std.specs.Prelude.{◌≡◌, ◌≢◌, ℕ, ◌+◌, ◌≤◌, ◌<◌, ◌⊎◌, ◌==◌, true, false, List, [], ◌∷◌, length, Option, Some, None, if◌then◌else◌}
use Rattle.byte_io.specs.Device.{SourceState, SinkState}
use Rattle.byte_io.specs.Whole.{ReadsUpTo, FailsAfter, GivesAtMost, WritesAll, IsCutAt}
use Rattle.reg_op.specs.Set as set
use Rattle.reg_op.specs.Ids.{Id, Ids, is_before}
use Rattle.reg_op.specs.Operations.{Op, Ops}
use Rattle.reg_op.specs.Contents.{Content, IsContent}
use Rattle.reg_op.specs.Pieces.{Piece, IsPiece}
use Rattle.reg_state.specs.declared.run.Run.{Run}
use Rattle.reg_state.specs.Runs.{AreRuns, AllIds, seen_of}
use Rattle.reg_file.specs.declared.fault.FileFault.{FileFault}
use Rattle.reg_file.specs.declared.fault.FirstFileFault.{FirstFileFault}
use Rattle.reg_file.specs.declared.fault.FirstFileFault.TheVariants as first
use Rattle.reg_file.specs.declared.fault.ReadFileFault.{ReadFileFault}
use Rattle.reg_file.specs.declared.fault.ReadFileFault.TheVariants as reading
use Rattle.reg_file.specs.declared.fault.WriteFileFault.{WriteFileFault}
use Rattle.reg_file.specs.declared.fault.WriteFileFault.TheVariants as writing
use Rattle.reg_file.specs.Layout.{register_file, seen_file, piece_file}
use Rattle.reg_file.specs.Reading.{HasFault, HasSeenFault, HasPieceFault}

-- the most bytes of a file
abbrev pub most : ℕ
most = 67108864

-- no operation has a note
abbrev pub AreUnnoted : Ops → Type 0
AreUnnoted s = (o : Op) → set.contains s o ≡ true → o.note ≡ []

-- ---- the files of a version, of any length

-- these are the bytes of the content's file. Version 1 leaves the notes out
pub record IsFileIn (version : ℕ) (x : Content) (bytes : List ℕ) : Type 0 where
  pub runs : List Run
  pub are_runs : AreRuns runs
  pub all : seen_of runs ≡ x.seen
  pub whole : bytes ≡ register_file version (set.items x.ops) runs

-- these are the bytes of the file of the ids that were seen
pub record IsSeenFileIn (version : ℕ) (ids : Ids) (bytes : List ℕ) : Type 0 where
  pub runs : List Run
  pub are_runs : AreRuns runs
  pub all : seen_of runs ≡ ids
  pub whole : bytes ≡ seen_file version runs

-- these are the bytes of the piece's file. Version 1 leaves the notes out
pub record IsPieceFileIn (version : ℕ) (p : Piece) (bytes : List ℕ) : Type 0 where
  pub basis : List Run
  pub are_basis : AreRuns basis
  pub all_basis : seen_of basis ≡ p.basis
  pub runs : List Run
  pub are_runs : AreRuns runs
  pub all : seen_of runs ≡ p.seen
  pub whole : bytes ≡ piece_file version basis (set.items p.ops) runs

-- the same, in the version that is written
abbrev pub IsFileOf : Content → List ℕ → Type 0
IsFileOf x bytes = IsFileIn 2 x bytes

abbrev pub IsSeenFileOf : Ids → List ℕ → Type 0
IsSeenFileOf ids bytes = IsSeenFileIn 2 ids bytes

abbrev pub IsPieceFileOf : Piece → List ℕ → Type 0
IsPieceFileOf p bytes = IsPieceFileIn 2 p bytes

-- ---- the content of a file's bytes

-- the bytes are the file of the content in a version
pub record HoldsIn (version : ℕ) (bytes : List ℕ) (x : Content) : Type 0 where
  pub content : IsContent x
  pub bytes_are : IsFileIn version x bytes
  pub short : length bytes ≤ most

-- the bytes are the file of the ids that were seen in a version
pub record HoldsSeenIn (version : ℕ) (bytes : List ℕ) (ids : Ids) : Type 0 where
  pub are_ids : AllIds ids
  pub bytes_are : IsSeenFileIn version ids bytes
  pub short : length bytes ≤ most

-- the bytes are the file of the piece in a version
pub record HoldsPieceIn (version : ℕ) (bytes : List ℕ) (p : Piece) : Type 0 where
  pub piece : IsPiece p
  pub bytes_are : IsPieceFileIn version p bytes
  pub short : length bytes ≤ most

-- the bytes are the file that is written: of the content; of the ids that were seen; of the piece
abbrev pub Holds : List ℕ → Content → Type 0
Holds bytes x = HoldsIn 2 bytes x

abbrev pub HoldsSeen : List ℕ → Ids → Type 0
HoldsSeen bytes ids = HoldsSeenIn 2 bytes ids

abbrev pub HoldsPiece : List ℕ → Piece → Type 0
HoldsPiece bytes p = HoldsPieceIn 2 bytes p

-- the bytes are the file of version 1, which is complete without notes
abbrev pub HoldsFirst : List ℕ → Content → Type 0
HoldsFirst bytes x = HoldsIn 1 bytes x × AreUnnoted x.ops

abbrev pub HoldsFirstSeen : List ℕ → Ids → Type 0
HoldsFirstSeen bytes ids = HoldsSeenIn 1 bytes ids

abbrev pub HoldsFirstPiece : List ℕ → Piece → Type 0
HoldsFirstPiece bytes p = HoldsPieceIn 1 bytes p × AreUnnoted p.ops

-- the bytes are read as this: they are a file of either version
abbrev pub ReadsAs : List ℕ → Content → Type 0
ReadsAs bytes x = Holds bytes x ⊎ HoldsFirst bytes x

abbrev pub ReadsAsSeen : List ℕ → Ids → Type 0
ReadsAsSeen bytes ids = HoldsSeen bytes ids ⊎ HoldsFirstSeen bytes ids

abbrev pub ReadsAsPiece : List ℕ → Piece → Type 0
ReadsAsPiece bytes p = HoldsPiece bytes p ⊎ HoldsFirstPiece bytes p

-- why bytes are read as nothing of a kind whose first faults are these
abbrev pub IsReadFaultBy : (List ℕ → FileFault → ℕ → Type 0) → List ℕ → ReadFileFault → Type 0
IsReadFaultBy Has bytes (reading.File f place) = (length bytes ≤ most) × Has bytes f place
IsReadFaultBy Has bytes reading.TooLarge = most < length bytes
IsReadFaultBy Has bytes (reading.ReadFailed n) = ⊥
IsReadFaultBy Has bytes reading.Memory = Unit {0}

-- why bytes are not read as a content; as a summary; as a piece
abbrev pub IsReadFault : List ℕ → ReadFileFault → Type 0
IsReadFault bytes f = IsReadFaultBy HasFault bytes f

abbrev pub IsSeenReadFault : List ℕ → ReadFileFault → Type 0
IsSeenReadFault bytes f = IsReadFaultBy HasSeenFault bytes f

abbrev pub IsPieceReadFault : List ℕ → ReadFileFault → Type 0
IsPieceReadFault bytes f = IsReadFaultBy HasPieceFault bytes f

-- ---- over a source

-- all bytes of the source, or one more than a file may have
abbrev pub ReadsBytes : SourceState → SourceState → List ℕ → Type 0
ReadsBytes old new bytes = ReadsUpTo (most + 1) old new bytes

-- the source gave bytes that are read as this
abbrev pub FindsBy : {A : Type 0} → (List ℕ → A → Type 0) → SourceState → SourceState → A → Type 0
FindsBy Are old new x = (bytes : List ℕ) × ReadsBytes old new bytes × Are bytes x

-- the source gave a file of the content; of the ids that were seen; of the piece
abbrev pub Finds : SourceState → SourceState → Content → Type 0
Finds old new x = FindsBy ReadsAs old new x

abbrev pub FindsSeen : SourceState → SourceState → Ids → Type 0
FindsSeen old new ids = FindsBy ReadsAsSeen old new ids

abbrev pub FindsPiece : SourceState → SourceState → Piece → Type 0
FindsPiece old new p = FindsBy ReadsAsPiece old new p

-- the source failed after n bytes; or memory ran out; or what it gave is not read, for this reason
abbrev pub IsReadFromFaultBy : (List ℕ → FileFault → ℕ → Type 0) → SourceState → SourceState → ReadFileFault → Type 0
IsReadFromFaultBy Has old new (reading.ReadFailed n) = FailsAfter n (most + 1) old new
IsReadFromFaultBy Has old new reading.Memory = GivesAtMost (most + 1) old new
IsReadFromFaultBy Has old new reading.TooLarge = (bytes : List ℕ) × ReadsBytes old new bytes × (most < length bytes)
IsReadFromFaultBy Has old new (reading.File f place) = (bytes : List ℕ) × ReadsBytes old new bytes × (length bytes ≤ most) × Has bytes f place

abbrev pub IsReadFromFault : SourceState → SourceState → ReadFileFault → Type 0
IsReadFromFault old new f = IsReadFromFaultBy HasFault old new f

abbrev pub IsSeenReadFromFault : SourceState → SourceState → ReadFileFault → Type 0
IsSeenReadFromFault old new f = IsReadFromFaultBy HasSeenFault old new f

abbrev pub IsPieceReadFromFault : SourceState → SourceState → ReadFileFault → Type 0
IsPieceReadFromFault old new f = IsReadFromFaultBy HasPieceFault old new f

-- ---- over a sink

-- the file of the content has too many bytes, in a version and in the one that is written;
-- that of the ids that were seen; that of the piece
abbrev pub IsTooLargeIn : ℕ → Content → Type 0
IsTooLargeIn version x = (bytes : List ℕ) × IsFileIn version x bytes × (most < length bytes)

abbrev pub IsTooLarge : Content → Type 0
IsTooLarge x = IsTooLargeIn 2 x

abbrev pub IsSeenTooLarge : Ids → Type 0
IsSeenTooLarge ids = (bytes : List ℕ) × IsSeenFileOf ids bytes × (most < length bytes)

abbrev pub IsPieceTooLarge : Piece → Type 0
IsPieceTooLarge p = (bytes : List ℕ) × IsPieceFileOf p bytes × (most < length bytes)

-- a file with such bytes was completely written
abbrev pub WritesBy : (List ℕ → Type 0) → SinkState → SinkState → Type 0
WritesBy Are old new = (bytes : List ℕ) × Are bytes × WritesAll bytes old new

-- nothing was written; or the sink failed, or took none, after the first n bytes of such a file
abbrev pub IsWriteFaultBy : (List ℕ → Type 0) → SinkState → SinkState → WriteFileFault → Type 0
IsWriteFaultBy Are old new writing.TooLarge = new ≡ old
IsWriteFaultBy Are old new writing.Memory = new ≡ old
IsWriteFaultBy Are old new (writing.WriteFailed n) = (bytes : List ℕ) × Are bytes × IsCutAt n bytes old new

abbrev pub Writes : Content → SinkState → SinkState → Type 0
Writes x old new = WritesBy (λ bytes. Holds bytes x) old new

abbrev pub IsWriteFault : Content → SinkState → SinkState → WriteFileFault → Type 0
IsWriteFault x old new f = IsWriteFaultBy (λ bytes. Holds bytes x) old new f

abbrev pub WritesSeen : Ids → SinkState → SinkState → Type 0
WritesSeen ids old new = WritesBy (λ bytes. HoldsSeen bytes ids) old new

abbrev pub IsSeenWriteFault : Ids → SinkState → SinkState → WriteFileFault → Type 0
IsSeenWriteFault ids old new f = IsWriteFaultBy (λ bytes. HoldsSeen bytes ids) old new f

abbrev pub WritesPiece : Piece → SinkState → SinkState → Type 0
WritesPiece p old new = WritesBy (λ bytes. HoldsPiece bytes p) old new

abbrev pub IsPieceWriteFault : Piece → SinkState → SinkState → WriteFileFault → Type 0
IsPieceWriteFault p old new f = IsWriteFaultBy (λ bytes. HoldsPiece bytes p) old new f

-- ---- the file of version 1 over a sink

-- the id of the first operation with a note
abbrev pub first_in : List Op → Option Id
first_in [] = None
first_in (o ∷ os) = if length o.note == 0 then first_in os else Some o.id

-- the least id of an operation with a note: the items of a set ascend by id
abbrev pub first_noted : Ops → Option Id
first_noted s = first_in (set.items s)

-- the id of an operation with a note; no operation with a note has a lesser one
pub record IsLeastNoted (s : Ops) (i : Id) : Type 0 where
  pub one : Op
  pub there : set.contains s one ≡ true
  pub noted : one.note ≢ []
  pub at : one.id ≡ i
  pub least : (o : Op) → set.contains s o ≡ true → o.note ≢ [] → is_before o.id i ≡ false

abbrev pub WritesFirst : Content → SinkState → SinkState → Type 0
WritesFirst x old new = WritesBy (λ bytes. HoldsFirst bytes x) old new

abbrev pub IsFirstFault : Content → SinkState → SinkState → FirstFileFault → Type 0
IsFirstFault x old new (first.HasNote id) = new ≡ old
IsFirstFault x old new (first.Write f) = IsWriteFaultBy (λ bytes. HoldsFirst bytes x) old new f

-- a fault of making its bytes
abbrev pub IsUnmade : FirstFileFault → Type 0
IsUnmade (first.Write (writing.WriteFailed n)) = ⊥
IsUnmade f = Unit {0}
