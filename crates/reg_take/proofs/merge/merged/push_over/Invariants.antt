use Rattle.std.proofs.Common.{◌≡◌, ◌++◌, map, take}
use Rattle.reg_tree.specs.Over.{piece_over}
use Rattle.reg_take.proofs.merge.merged.push_over.Given as goal

abbrev pub invariant-loop-piece : goal.invariant-loop-piece
invariant-loop-piece l = l.made.items ≡ l.initial.made.items ++ map (piece_over l.register) (take l.piece-index l.pieces)
