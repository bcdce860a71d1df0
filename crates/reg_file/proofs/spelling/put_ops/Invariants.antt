use Rattle.std.proofs.Common.{◌≡◌, ◌++◌, length, take}
use Rattle.std.specs.List.{flat_map}
use Rattle.reg_file.specs.Layout.{four, op_bytes}
use Rattle.reg_file.proofs.spelling.put_ops.Given as goal

abbrev pub invariant-loop-op : goal.invariant-loop-op
invariant-loop-op l = l.out.items ≡ l.fn.out.items ++ (four (length l.ops) ++ flat_map (op_bytes l.version) (take l.op-index l.ops))
