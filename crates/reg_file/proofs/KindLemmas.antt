-- Files of different kinds differ in the byte of the kind.
use Rattle.std.proofs.Common.{◌≡◌, ℕ, Bool, true, false, List, ◌++◌, get_or, ap, arith, inl, inr}
use Rattle.reg_op.specs.Ids.{Ids}
use Rattle.reg_op.specs.Contents.{Content}
use Rattle.reg_op.specs.Pieces.{Piece}
use Rattle.reg_file.specs.Layout.{head}
use Rattle.reg_file.specs.Reading.{says_piece, FaultBy, HasPartFault}
use Rattle.reg_file.specs.Files.{Holds, HoldsSeen, HoldsPiece, ReadsAs, ReadsAsSeen, ReadsAsPiece}
use Rattle.reg_file.specs.declared.fault.FileFault.{FileFault}
use Rattle.reg_file.proofs.HoldLemmas as registers
use Rattle.reg_file.proofs.PieceLemmas as pieces

kind_is : (version kind : ℕ) (bytes rest : List ℕ) → bytes ≡ head version kind ++ rest → get_or bytes 5 0 ≡ kind
kind_is version kind bytes rest e = ap (λ (l : List ℕ). get_or l 5 0) e

register_kind : (bytes : List ℕ) (x : Content) → ReadsAs bytes x → get_or bytes 5 0 ≡ 1
register_kind bytes x (inl h) = kind_is 2 1 bytes _ h.bytes_are.whole
register_kind bytes x (inr h) = kind_is 1 1 bytes _ h.0.bytes_are.whole

seen_kind : (bytes : List ℕ) (ids : Ids) → ReadsAsSeen bytes ids → get_or bytes 5 0 ≡ 2
seen_kind bytes ids (inl h) = kind_is 2 2 bytes _ h.bytes_are.whole
seen_kind bytes ids (inr h) = kind_is 1 2 bytes _ h.bytes_are.whole

piece_kind : (bytes : List ℕ) (p : Piece) → ReadsAsPiece bytes p → get_or bytes 5 0 ≡ 3
piece_kind bytes p (inl h) = kind_is 2 3 bytes _ h.bytes_are.whole
piece_kind bytes p (inr h) = kind_is 1 3 bytes _ h.0.bytes_are.whole

pub read_register_or_seen : (bytes : List ℕ) (x : Content) (ids : Ids) → ReadsAs bytes x → ReadsAsSeen bytes ids → ⊥
read_register_or_seen bytes x ids h k = omega (arith, register_kind bytes x h, seen_kind bytes ids k)

pub read_register_or_piece : (bytes : List ℕ) (x : Content) (p : Piece) → ReadsAs bytes x → ReadsAsPiece bytes p → ⊥
read_register_or_piece bytes x p h k = omega (arith, register_kind bytes x h, piece_kind bytes p k)

pub read_seen_or_piece : (bytes : List ℕ) (ids : Ids) (p : Piece) → ReadsAsSeen bytes ids → ReadsAsPiece bytes p → ⊥
read_seen_or_piece bytes ids p h k = omega (arith, seen_kind bytes ids h, piece_kind bytes p k)

-- the same for files of version 2
pub register_or_seen : (bytes : List ℕ) (x : Content) (ids : Ids) → Holds bytes x → HoldsSeen bytes ids → ⊥
register_or_seen bytes x ids h k = read_register_or_seen bytes x ids (inl h) (inl k)

pub register_or_piece : (bytes : List ℕ) (x : Content) (p : Piece) → Holds bytes x → HoldsPiece bytes p → ⊥
register_or_piece bytes x p h k = read_register_or_piece bytes x p (inl h) (inl k)

pub seen_or_piece : (bytes : List ℕ) (ids : Ids) (p : Piece) → HoldsSeen bytes ids → HoldsPiece bytes p → ⊥
seen_or_piece bytes ids p h k = read_seen_or_piece bytes ids p (inl h) (inl k)

-- ---- parts

pub register_says : (bytes : List ℕ) (x : Content) → ReadsAs bytes x → says_piece bytes ≡ false
register_says bytes x (inl h) = ap says_piece h.bytes_are.whole
register_says bytes x (inr h) = ap says_piece h.0.bytes_are.whole

pub piece_says : (bytes : List ℕ) (p : Piece) → ReadsAsPiece bytes p → says_piece bytes ≡ true
piece_says bytes p (inl h) = ap says_piece h.bytes_are.whole
piece_says bytes p (inr h) = ap says_piece h.0.bytes_are.whole

by_kind : (b : Bool) (bytes : List ℕ) (f g : FileFault) (m n : ℕ) → FaultBy b bytes f m → FaultBy b bytes g n → (f ≡ g) × (m ≡ n)
by_kind true bytes f g m n h k = pieces.one_first_fault bytes f g m n h k
by_kind false bytes f g m n h k = registers.one_first_fault bytes f g m n h k

pub one_part_fault : (bytes : List ℕ) (f g : FileFault) (m n : ℕ) → HasPartFault bytes f m → HasPartFault bytes g n → (f ≡ g) × (m ≡ n)
one_part_fault bytes f g m n h k = by_kind (says_piece bytes) bytes f g m n h k
