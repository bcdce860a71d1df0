use Rattle.std.proofs.Common.{◌≡◌, take}
use Rattle.reg_tree.specs.Listed.{ops_at, ops_in}
use Rattle.reg_tree.proofs.registers.ops_of.Given as goal

abbrev pub invariant-loop-register : goal.invariant-loop-register
invariant-loop-register l = ops_at l.made.items ≡ ops_in (take l.register-index l.registers)
