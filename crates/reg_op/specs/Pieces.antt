-- Pieces of contents, and the join of a content and a piece.
use Rattle.std.specs.Prelude.{◌≡◌, true, false, not, Option, Some, None, Result, Ok, Err, find}
use Rattle.reg_op.specs.Set as set
use Rattle.reg_op.specs.Ids.{Id, IsId, Ids, is_before}
use Rattle.reg_op.specs.Operations.{Ops}
use Rattle.reg_op.specs.Contents.{Content, joined, IsContent}

-- the value of a piece: what a register that has seen the basis lacks, and the basis
pub record Piece : Type 0 where
  pub ops : Ops
  pub basis : Ids
  pub seen : Ids

-- the operations and the seen ids of a piece
abbrev pub part_of : Piece → Content
part_of p = record { ops = p.ops; seen = p.seen }

-- the part of a content with ids outside the basis
abbrev pub outside : Ids → Content → Content
outside basis x = record { ops = set.retain x.ops (λ o. not (set.contains basis o.id)); seen = set.difference x.seen basis }

-- the piece of a content for a basis
abbrev pub piece_for : Content → Ids → Piece
piece_for x basis = record { ops = (outside basis x).ops; basis = basis; seen = (outside basis x).seen }

-- valid pieces: a content and a basis without common ids
pub record IsPiece (p : Piece) : Type 0 where
  pub content : IsContent (part_of p)
  pub are_ids : (i : Id) → set.contains p.basis i ≡ true → IsId i
  pub apart : (i : Id) → set.contains p.seen i ≡ true → set.contains p.basis i ≡ false

-- each id of the basis was seen
abbrev pub IsHeld : Ids → Ids → Type 0
IsHeld basis seen = (i : Id) → set.contains basis i ≡ true → set.contains seen i ≡ true

-- the least id of the basis that was not seen. A set's items ascend
abbrev pub first_missing : Ids → Ids → Option Id
first_missing basis seen = find (λ i. not (set.contains seen i)) (set.items basis)

pub record IsLeastMissing (basis seen : Ids) (i : Id) : Type 0 where
  pub there : set.contains basis i ≡ true
  pub unseen : set.contains seen i ≡ false
  pub least : (j : Id) → set.contains basis j ≡ true → set.contains seen j ≡ false → is_before j i ≡ false

-- the least id of the basis that was not seen, or the least id that has two bodies
pub data PieceRefusal : Type 0 where
  Basis : (id : Id) → PieceRefusal
  Clash : (id : Id) → PieceRefusal

abbrev pub joined_where : Option Id → Result Content Id → Result Content PieceRefusal
joined_where (Some id) r = Err (Basis id)
joined_where None (Ok x) = Ok x
joined_where None (Err id) = Err (Clash id)

-- the basis is checked before the bodies
abbrev pub joined_piece : Content → Piece → Result Content PieceRefusal
joined_piece x p = joined_where (first_missing p.basis x.seen) (joined x (part_of p))
