use Rattle.std.proofs.Common.{◌≡◌, ◌+◌, length}
use Rattle.reg_op.specs.Lists.{ById}
use Rattle.reg_state.specs.Merge.{clash_in}
use Rattle.reg_state.proofs.table.first_clash.Given as goal

abbrev pub invariant-loop-a : goal.invariant-loop-a
invariant-loop-a l = record {
  left : ById l.lefts;
  right : ById l.rights;
  same : clash_in l.lefts l.rights ≡ clash_in l.left l.right;
}

abbrev pub decreases-loop-a : goal.decreases-loop-a
decreases-loop-a l = length l.lefts + length l.rights
