use Rattle.std.proofs.Common.{◌≡◌, true, length}
use Rattle.reg_op.specs.Operations.{Op, IsOperation}
use Rattle.reg_op.specs.Lists.{has}
use Rattle.reg_state.specs.Merge.{first_off}
use Rattle.reg_state.proofs.table.first_replaced.Given as goal

-- the first replaced operation of the rest is that of the list; and if the rest has only operations, so has the list
abbrev pub invariant-loop-op : goal.invariant-loop-op
invariant-loop-op l =
    record {
      same : first_off l.marks l.rest ≡ first_off l.marks l.ops;
      sound : ((o : Op) → has l.rest o ≡ true → IsOperation o) → (o : Op) → has l.ops o ≡ true → IsOperation o;
    }

abbrev pub decreases-loop-op : goal.decreases-loop-op
decreases-loop-op l = length l.rest
