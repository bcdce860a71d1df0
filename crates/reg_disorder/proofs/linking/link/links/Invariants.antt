use Rattle.std.proofs.Common.{◌≡◌, take}
use Rattle.std.specs.List.{flat_map}
use Rattle.reg_op.specs.Operations.{Op}
use Rattle.reg_disorder.specs.Links.{link_in}
use Rattle.reg_disorder.proofs.linking.link.links.Given as goal

abbrev pub invariant-loop-op : goal.invariant-loop-op
invariant-loop-op l = l.links.items ≡ flat_map (λ (o : Op). link_in l.register.ops o.body) (take l.op-index l.ops)
