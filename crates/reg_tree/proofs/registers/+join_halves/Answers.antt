use Rattle.std.proofs.Common.{rules, ◌/◌, List, length, sym, ap, subst, ◌∙◌}
use Rattle.reg_op.specs.Contents.{Content}
use Rattle.reg_op.specs.Operations.{OneBody}
use Rattle.reg_state.specs.ManyLaws.{all_ops, merged_all}
use Rattle.reg_state.proofs.ManyLemmas.{joined_is}
use Rattle.reg_tree.proofs.Halves.{one_in_front, one_behind, both_halves}
use Rattle.reg_tree.proofs.registers.+join_halves.Goals as goal

pub returns-in-Ok : goal.returns-in-Ok
returns-in-Ok t c = joined_is c.args.registers.now c.in-Ok.all c.in-Ok.ensures.ok

pub join_halves-requires : goal.join_halves-requires
join_halves-requires t c =
    (search rules, subst (λ (l : List Content). OneBody (all_ops l)) (sym c.split_at.ensures.front) (one_in_front (length c.args.registers.now / 2) c.args.registers.now c.requires))

pub join_halves-requires-2 : goal.join_halves-requires-2
join_halves-requires-2 t c =
    (search rules, subst (λ (l : List Content). OneBody (all_ops l)) (sym c.split_at.ensures.back) (one_behind (length c.args.registers.now / 2) c.args.registers.now c.requires))

pub returns-in-Ok-join : goal.returns-in-Ok-join
returns-in-Ok-join t c =
    both_halves (length c.args.registers.now / 2) c.args.registers.now c.in_ok-left.left c.in_ok-right.right c.in-Ok-join.all
    (c.in_ok-left.ensures ∙ ap merged_all c.split_at.ensures.front) (c.in_ok-right.ensures ∙ ap merged_all c.split_at.ensures.back) c.in-Ok-join.ensures.ok
