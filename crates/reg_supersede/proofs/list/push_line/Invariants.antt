use Rattle.std.proofs.Common.{◌≡◌, ◌++◌, take}
use Rattle.reg_supersede.specs.Lists.{bodies_of}
use Rattle.reg_supersede.specs.Effects.{ArePairs}
use Rattle.reg_supersede.proofs.list.push_line.Given as goal

abbrev pub invariant-loop-pair : goal.invariant-loop-pair
invariant-loop-pair l =
    (l.effects.bodies.items ≡ l.fn.effects.bodies.items ++ bodies_of (take l.pair-index l.pairs))
    × ArePairs l.effects.pairs l.effects.bodies.items
