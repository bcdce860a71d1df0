use Rattle.std.proofs.Common.{◌≡◌, take}
use Rattle.std.specs.List.{flat_map}
use Rattle.reg_commands.specs.Export.{op_line}
use Rattle.reg_commands.proofs.export.lines_of.Given as goal

abbrev pub invariant-loop-op : goal.invariant-loop-op
invariant-loop-op l = l.lines.items ≡ flat_map (op_line l.register.ops) (take l.op-index l.ops)
