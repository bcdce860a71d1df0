use Rattle.std.proofs.Common.{◌≡◌, ◌++◌, map, take}
use Rattle.reg_supersede.specs.Lists.{pair_of}
use Rattle.reg_supersede.proofs.pair.push_pairs.Given as goal

abbrev pub invariant-loop-newer : goal.invariant-loop-newer
invariant-loop-newer l = l.pairs.items ≡ l.fn.pairs.items ++ map (pair_of l.old) (take l.newer-index l.fn.newer)
