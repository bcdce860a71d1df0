use Rattle.std.proofs.Common.{List, sym, ap, subst, ◌∙◌}
use Rattle.reg_op.specs.Contents.{Content}
use Rattle.reg_op.specs.Operations.{OneBody}
use Rattle.reg_state.specs.ManyLaws.{all_ops, merged_all}
use Rattle.reg_tree.proofs.Held.{one_of_parts, at_once}
use Rattle.reg_tree.proofs.pieces.join_at_once.Goals as goal

pub join_halves-requires : goal.join_halves-requires
join_halves-requires c =
    subst (λ (l : List Content). OneBody (all_ops l)) (sym (c.deref.ensures.value ∙ c.in_ok-parts.ensures)) (one_of_parts c.args.register.now c.args.pieces.now c.requires)

pub returns-in-Ok : goal.returns-in-Ok
returns-in-Ok c =
    at_once c.args.register.now c.args.pieces.now c.in_ok-brought.brought c.in-Ok.all c.join.ensures.values.0 c.requires
    (c.in_ok-brought.ensures ∙ ap merged_all (c.deref.ensures.value ∙ c.in_ok-parts.ensures)) c.in-Ok.ensures.ok
