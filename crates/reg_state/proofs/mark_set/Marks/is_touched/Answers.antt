use Rattle.std.proofs.Common.{None, Some, ◌∙◌}
use Rattle.reg_op.specs.Ids.{is_same}
use Rattle.reg_state.specs.declared.mark.Mark.{Mark}
use Rattle.reg_state.proofs.OrderLemmas.{begins_entry, told_of}
use Rattle.reg_state.proofs.mark_set.Marks.is_touched.Goals as goal

pub returns-in-Some : goal.returns-in-Some
returns-in-Some c =
    let t = λ (m : Mark). is_same c.args.entry m.target.entry in
    c.is_same.ensures
    ∙ told_of t _ _ _ _ (Some c.in-Some.mark) (c.first_from.ensures.told t (begins_entry c.args.entry)) c.deref.ensures.value c.self.view_is c.in-Some.is

pub returns-in-None : goal.returns-in-None
returns-in-None c =
    let t = λ (m : Mark). is_same c.args.entry m.target.entry in
    told_of t _ _ _ _ None (c.first_from.ensures.told t (begins_entry c.args.entry)) c.deref.ensures.value c.self.view_is c.in-None.is
