use Rattle.std.proofs.Common.{◌≡◌, map, take}
use Rattle.reg_op.specs.Operations.{Op}
use Rattle.reg_office.proofs.making.ids_of.Given as goal

abbrev pub invariant-loop-op : goal.invariant-loop-op
invariant-loop-op l = l.ids.items ≡ map (λ (o : Op). o.id) (take l.op-index l.ops)
