use Rattle.std.proofs.Common.{◌≡◌, ◌++◌, drop}
use Rattle.reg_supersede.specs.Lists.{pairs_of}
use Rattle.reg_supersede.proofs.pair.pairs_of.Given as goal

abbrev pub invariant-loop-old : goal.invariant-loop-old
invariant-loop-old l = pairs_of l.olds l.newer ≡ l.pairs.items ++ pairs_of (drop l.old-index l.olds) l.newer
