use Rattle.std.proofs.Common.{◌≡◌, drop, Ok}
use Rattle.reg_tree.specs.Chain.{with_pieces}
use Rattle.reg_tree.proofs.pieces.join_each.Given as goal

-- joining the remaining pieces to the content so far gives the join of all pieces to the register
abbrev pub invariant-loop-piece : goal.invariant-loop-piece
invariant-loop-piece l = with_pieces (Ok l.joined) (drop l.piece-index l.fn.pieces) ≡ with_pieces (Ok l.fn.register) l.fn.pieces
