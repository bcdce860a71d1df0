use Rattle.std.proofs.Common.{◌≡◌, map, take}
use Rattle.reg_office.specs.Effects.{effect_of}
use Rattle.reg_office.proofs.command.Command.bodies.Given as goal

abbrev pub invariant-loop-entry : goal.invariant-loop-entry
invariant-loop-entry l = l.bodies.items ≡ map (effect_of l.self) (take l.entry-index l.named)
