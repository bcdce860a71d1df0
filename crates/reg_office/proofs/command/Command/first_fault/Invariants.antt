use Rattle.std.proofs.Common.{◌≡◌, ◌≤◌, [], take, drop}
use Rattle.reg_office.proofs.EffectLemmas.{faults}
use Rattle.reg_office.proofs.command.Command.first_fault.Given as goal

abbrev pub invariant-loop-k : goal.invariant-loop-k
invariant-loop-k l = (l.k ≤ l.repeat) × (faults l.self l.register.ops [] l.named ≡ faults l.self l.register.ops (take l.k l.named) (drop l.k l.named))
