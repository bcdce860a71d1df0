use Rattle.std.proofs.Common.{subst}
use Rattle.reg_tree.specs.Listed.{OneEach, ops_at}
use Rattle.reg_tree.proofs.Neighbours.{more_true, one_each_of}
use Rattle.reg_tree.proofs.agreeing.agree.Goals as goal

pub returns : goal.returns
returns c = more_true c.neighbours_agree.result
    (λ each. one_each_of c.args.ops.items c.sort_by_id.new.ops.items c.sort_by_id.ensures.permutation (subst (λ l. OneEach (ops_at l)) c.deref.ensures.value each))
    c.neighbours_agree.ensures
