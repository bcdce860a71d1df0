-- Pieces as a basis and a part, and the operations outside a basis.
use Rattle.std.specs.Prelude.{◌≡◌, true, false, Bool, not, List, filter}
use Rattle.reg_op.specs.Set as set
use Rattle.reg_op.specs.Ids.{Id, IsId, Ids}
use Rattle.reg_op.specs.Operations.{Op}
use Rattle.reg_op.specs.Contents.{Content}
use Rattle.reg_op.specs.Pieces.{Piece}

-- the piece that has a basis, and the operations and seen ids of a content
abbrev pub piece_of : Ids → Content → Piece
piece_of basis part = record { ops = part.ops; basis = basis; seen = part.seen }

-- the basis has only ids, and none that the part has seen
pub record IsBasisOf (basis : Ids) (part : Content) : Type 0 where
  pub are_ids : (i : Id) → set.contains basis i ≡ true → IsId i
  pub apart : (i : Id) → set.contains part.seen i ≡ true → set.contains basis i ≡ false

-- of a list, the operations whose ids are outside the basis
abbrev pub is_outside : Ids → Op → Bool
is_outside basis o = not (set.contains basis o.id)

abbrev pub ops_outside : Ids → List Op → List Op
ops_outside basis os = filter (is_outside basis) os
