use Rattle.std.proofs.Common.{◌≡◌, ◌++◌, ◌∷◌, drop}
use Rattle.reg_take.specs.Inputs.{inputs_from}
use Rattle.reg_take.proofs.inputs.inputs_of.Given as goal

-- what was made, and what comes of the other files
abbrev pub invariant-loop-file : goal.invariant-loop-file
invariant-loop-file l =
    l.made.items ++ inputs_from l.effect.before l.effect.left.items l.file (drop l.file l.effect.arrivals.items) ≡ l.effect.before ∷ inputs_from l.effect.before l.effect.left.items 0 l.effect.arrivals.items
