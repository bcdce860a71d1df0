use Rattle.std.proofs.Common.{◌≡◌, ◌++◌, drop}
use Rattle.reg_commands.specs.Keyed.{each_superseded}
use Rattle.reg_commands.proofs.again.words.superseding.Given as goal

-- the effects so far, and then those of the remaining entries, are all effects
abbrev pub invariant-loop-old : goal.invariant-loop-old
invariant-loop-old l = l.made.items ++ each_superseded (drop l.old-index l.fn.entries) l.fn.newer ≡ each_superseded l.fn.entries l.fn.newer
