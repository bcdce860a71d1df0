use Rattle.std.proofs.Common.{◌≡◌, All, filter, map, take}
use Rattle.reg_op.specs.Operations.{Op}
use Rattle.reg_op.specs.Status.{is_enter}
use Rattle.reg_page.specs.declared.described.Described.{Described}
use Rattle.reg_page.specs.Descriptions.{IsDescribed}
use Rattle.reg_page.proofs.described.all_described.Given as goal

abbrev pub invariant-loop-op : goal.invariant-loop-op
invariant-loop-op l =
    (All (IsDescribed l.rules l.register.ops) l.made.items)
    × (map (λ (t : Described). t.id) l.made.items ≡ map (λ (o : Op). o.id) (filter (λ (o : Op). is_enter o.body) (take l.op-index l.ops)))
