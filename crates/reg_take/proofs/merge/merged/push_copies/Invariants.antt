use Rattle.std.proofs.Common.{◌≡◌, ◌++◌, take}
use Rattle.reg_take.proofs.merge.merged.push_copies.Given as goal

abbrev pub invariant-loop-register : goal.invariant-loop-register
invariant-loop-register l = l.made.items ≡ l.initial.made.items ++ take l.register-index l.registers
