use Rattle.std.proofs.Common.{◌≡◌, ◌∷◌, map, take}
use Rattle.reg_op.specs.Pieces.{part_of}
use Rattle.reg_tree.specs.Listed.{ops_at, ops_in}
use Rattle.reg_tree.proofs.pieces.ops_with.Given as goal

abbrev pub invariant-loop-piece : goal.invariant-loop-piece
invariant-loop-piece l = ops_at l.made.items ≡ ops_in (l.register ∷ map part_of (take l.piece-index l.pieces))
