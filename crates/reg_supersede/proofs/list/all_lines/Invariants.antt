use Rattle.std.proofs.Common.{◌+◌, map, drop}
use Rattle.reg_supersede.specs.Effects.{task_of, ArePairs, AreDone, CanMake}
use Rattle.reg_supersede.proofs.ListLemmas.{Completes, Passes}
use Rattle.reg_supersede.proofs.list.all_lines.Given as goal

abbrev pub invariant-loop-at : goal.invariant-loop-at
invariant-loop-at l =
    Completes (task_of l.options) l.options.register.now (map (λ w. w.now) l.lines) (l.at + 1) (map (λ w. w.now) (drop l.at l.lines)) l.effects.bodies.items l.left.items
    × Passes (task_of l.options) l.options.register.now (map (λ w. w.now) l.lines) (l.at + 1) (map (λ w. w.now) (drop l.at l.lines)) l.effects.bodies.items
    × CanMake (task_of l.options) l.options.register.now l.effects.bodies.items
    × ArePairs l.effects.pairs l.effects.bodies.items
    × AreDone (task_of l.options) l.options.register.now l.effects.bodies.items l.done
