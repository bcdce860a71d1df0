-- Pieces, joined one after another.
use Rattle.std.specs.Prelude.{◌∷◌, [], List, Result, Ok, Err, map}
use Rattle.reg_op.specs.Set as set
use Rattle.reg_op.specs.Ids.{Ids}
use Rattle.reg_op.specs.Operations.{OneBody}
use Rattle.reg_op.specs.Contents.{Content}
use Rattle.reg_op.specs.Pieces.{Piece, PieceRefusal, IsHeld, part_of, joined_piece}
use Rattle.reg_state.specs.ManyLaws.{all_ops}

abbrev pub with_piece : Result Content PieceRefusal → Piece → Result Content PieceRefusal
with_piece (Ok x) p = joined_piece x p
with_piece (Err r) p = Err r

-- pieces in order: the refusal of the first step that has one
abbrev pub with_pieces : Result Content PieceRefusal → List Piece → Result Content PieceRefusal
with_pieces r [] = r
with_pieces r (p ∷ ps) = with_pieces (with_piece r p) ps

-- the basis of each piece was seen before it is joined: at first, or in an earlier piece
abbrev pub AllHeld : List Piece → Ids → Type 0
AllHeld [] seen = Unit {0}
AllHeld (p ∷ ps) seen = IsHeld p.basis seen × AllHeld ps (set.union seen p.seen)

-- nothing is refused when the pieces are joined to the content
pub record Fit (x : Content) (ps : List Piece) : Type 0 where
  pub held : AllHeld ps x.seen
  pub one_body : OneBody (all_ops (x ∷ map part_of ps))
