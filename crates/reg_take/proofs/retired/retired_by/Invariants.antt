use Rattle.std.proofs.Common.{◌≡◌, take}
use Rattle.reg_take.specs.Files.{retired_by}
use Rattle.reg_take.proofs.retired.retired_by.Given as goal

abbrev pub invariant-loop-op : goal.invariant-loop-op
invariant-loop-op l = l.made.items ≡ retired_by (take l.op-index l.ops)
