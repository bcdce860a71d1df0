use Rattle.std.proofs.Common.{◌≡◌, take}
use Rattle.reg_tree.proofs.offices.piece.copies.Given as goal

abbrev pub invariant-loop-op : goal.invariant-loop-op
invariant-loop-op l = l.made.items ≡ take l.op-index l.ops
