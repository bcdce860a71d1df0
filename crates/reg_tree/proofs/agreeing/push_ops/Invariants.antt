use Rattle.std.proofs.Common.{◌≡◌, ◌++◌, take}
use Rattle.reg_tree.specs.Listed.{ops_at}
use Rattle.reg_tree.proofs.agreeing.push_ops.Given as goal

abbrev pub invariant-loop-op : goal.invariant-loop-op
invariant-loop-op l = ops_at l.made.items ≡ ops_at l.initial.made.items ++ take l.op-index l.ops
