use Rattle.std.proofs.Common.{◌≡◌, map, take}
use Rattle.reg_op.specs.Pieces.{part_of}
use Rattle.reg_tree.proofs.pieces.registers_of.Given as goal

abbrev pub invariant-loop-piece : goal.invariant-loop-piece
invariant-loop-piece l = l.made.items ≡ map part_of (take l.piece-index l.pieces)
