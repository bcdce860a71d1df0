-- The contents of sent files.
use Rattle.std.specs.Prelude.{◌≡◌, ℕ, List}
use Rattle.reg_op.specs.Set as set
use Rattle.reg_op.specs.Ids.{Ids}
use Rattle.reg_op.specs.Operations.{Ops, ids}
use Rattle.reg_op.specs.Contents.{Content, state}
use Rattle.reg_op.specs.Pieces.{Piece, piece_for}
use Rattle.reg_file.specs.Files.{Holds, HoldsFirst, ReadsAs, IsTooLarge, HoldsSeen, HoldsFirstSeen, ReadsAsSeen, HoldsPiece, HoldsFirstPiece, ReadsAsPiece, IsSeenTooLarge, IsPieceTooLarge}

-- the content of a register, a summary of the ids that were seen, or a piece of a content
pub data Pooled : Type 0 where
  OfRegister : (content : Content) → Pooled
  OfSeen : (seen : Ids) → Pooled
  OfPiece : (piece : Piece) → Pooled

-- the bytes are its file
abbrev pub HoldsAny : List ℕ → Pooled → Type 0
HoldsAny bytes (OfRegister x) = Holds bytes x
HoldsAny bytes (OfSeen seen) = HoldsSeen bytes seen
HoldsAny bytes (OfPiece piece) = HoldsPiece bytes piece

-- the bytes are its file of version 1
abbrev pub HoldsFirstAny : List ℕ → Pooled → Type 0
HoldsFirstAny bytes (OfRegister x) = HoldsFirst bytes x
HoldsFirstAny bytes (OfSeen seen) = HoldsFirstSeen bytes seen
HoldsFirstAny bytes (OfPiece piece) = HoldsFirstPiece bytes piece

-- the bytes are its file of either version
abbrev pub ReadsAsAny : List ℕ → Pooled → Type 0
ReadsAsAny bytes (OfRegister x) = ReadsAs bytes x
ReadsAsAny bytes (OfSeen seen) = ReadsAsSeen bytes seen
ReadsAsAny bytes (OfPiece piece) = ReadsAsPiece bytes piece

-- its file has too many bytes
abbrev pub IsAnyTooLarge : Pooled → Type 0
IsAnyTooLarge (OfRegister x) = IsTooLarge x
IsAnyTooLarge (OfSeen seen) = IsSeenTooLarge seen
IsAnyTooLarge (OfPiece piece) = IsPieceTooLarge piece

-- the operations that are in it
abbrev pub ops_in : Pooled → Ops
ops_in (OfRegister x) = x.ops
ops_in (OfSeen seen) = set.empty
ops_in (OfPiece piece) = piece.ops

-- the file of an office that had reached these operations: their state, their ids, or a piece
abbrev pub TellsOf : Ops → Pooled → Type 0
TellsOf reached (OfRegister x) = x ≡ state reached
TellsOf reached (OfSeen seen) = seen ≡ ids reached
TellsOf reached (OfPiece piece) = (basis : Ids) × (piece ≡ piece_for (state reached) basis)
