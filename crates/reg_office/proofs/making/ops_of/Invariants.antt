use Rattle.std.proofs.Common.{◌≡◌, take}
use Rattle.reg_office.specs.Making.{numbered}
use Rattle.reg_office.proofs.making.ops_of.Given as goal

abbrev pub invariant-loop-k : goal.invariant-loop-k
invariant-loop-k l = l.ops.items ≡ numbered l.replica l.first l.note (take l.k l.bodies)
