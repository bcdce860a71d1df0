use Rattle.std.proofs.Common.{ap, ◌∙◌}
use Rattle.reg_op.specs.Pieces.{first_missing}
use Rattle.reg_tree.proofs.Held.{if_fit, held_none}
use Rattle.reg_tree.proofs.pieces.fit.Goals as goal

pub returns : goal.returns
returns c =
    let x = c.args.register.now in
    if_fit c.agree.result c.in_ok-ops.ops.items x c.args.pieces.now
    (c.in_ok-needs.ensures.basis x.seen (held_none c.in_ok-needs.needs.basis x.seen c.first_outside.result c.is_some.result
    (c.first_outside.ensures ∙ ap (first_missing c.in_ok-needs.needs.basis) c.seen.ensures.value) c.is_some.ensures c.if-is_some.false))
    c.in_ok-ops.ensures c.agree.ensures
