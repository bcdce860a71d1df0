use Rattle.std.proofs.Common.{◌≡◌, not, take}
use Rattle.std.specs.List.{flat_map, filter}
use Rattle.reg_op.specs.Operations.{Op, named_in}
use Rattle.reg_op.specs.Status.{enters}
use Rattle.reg_report.proofs.named.awaited.Given as goal

abbrev pub invariant-loop-op : goal.invariant-loop-op
invariant-loop-op l = l.ids.items ≡ flat_map (λ (o : Op). filter (λ i. not (enters l.register.ops i)) (named_in o.body)) (take l.op-index l.op-items)
