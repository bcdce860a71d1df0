use Rattle.std.proofs.Common.{ap, ◌∙◌}
use Rattle.reg_op.specs.Pieces.{outside}
use Rattle.reg_state.specs.Marks.{least_marks}
use Rattle.reg_state.specs.Pieces.{ops_outside}
use Rattle.reg_state.proofs.PieceLemmas.{outside_at, outside_tables}
use Rattle.reg_state.proofs.register.Register.outside.Goals as goal

pub invariant_of-result : goal.invariant_of-result
invariant_of-result c =
    let b = c.args.basis.now in
    outside_tables b c.self.inside.ops.items _ c.self.inside.marks _ c.self.inside.seen _ c.self.invariant
    (c.in_ok-ops.ensures ∙ ap (ops_outside b) c.deref.ensures.value) c.in_ok-seen.ensures (c.in_ok-marks.ensures ∙ ap least_marks c.deref-2.ensures.value)

pub returns : goal.returns
returns c =
    let b = c.args.basis.now in
    outside_at b c.self.inside.ops.items _ c.self.inside.seen _ (c.in_ok-ops.ensures ∙ ap (ops_outside b) c.deref.ensures.value) c.in_ok-seen.ensures
    ∙ ap (outside b) c.self.view_is
