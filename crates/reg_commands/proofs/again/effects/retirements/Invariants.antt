use Rattle.std.proofs.Common.{◌≡◌, take}
use Rattle.reg_office.specs.Commands.{retirements}
use Rattle.reg_commands.proofs.again.effects.retirements.Given as goal

abbrev pub invariant-loop-entry : goal.invariant-loop-entry
invariant-loop-entry l = l.made.items ≡ retirements (take l.entry-index l.entries)
