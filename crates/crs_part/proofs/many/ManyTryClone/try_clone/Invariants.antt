use Rattle.std.proofs.Common.{◌≡◌, take}
use Rattle.crs_part.proofs.many.ManyTryClone.try_clone.Given as goal

abbrev pub invariant-loop-item : goal.invariant-loop-item
invariant-loop-item g l = l.copy ≡ take l.item-index l.item-items
