use Rattle.std.proofs.Common.{◌≡◌, ◌++◌, filter, not, length}
use Rattle.reg_op.specs.Operations.{Op}
use Rattle.reg_op.specs.Status.{is_enter}
use Rattle.reg_page.specs.Page.{acts_in}
use Rattle.reg_page.proofs.acts.acts.Given as goal

abbrev pub invariant-loop-op : goal.invariant-loop-op
invariant-loop-op l = l.made.items ++ filter (λ (o : Op). not (is_enter o.body)) l.rest ≡ acts_in l.register.ops

abbrev pub decreases-loop-op : goal.decreases-loop-op
decreases-loop-op l = length l.rest
