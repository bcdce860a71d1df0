use Rattle.std.proofs.Common.{◌≡◌, Some, sym, ap, ◌∙◌}
use Rattle.reg_state.specs.Marks.{least_marks}
use Rattle.reg_op.specs.Lists.{has}
use Rattle.reg_state.specs.Merge.{first_off}
use Rattle.reg_state.proofs.TableLemmas.{own_tables, dropped_at}
use Rattle.reg_state.proofs.register.Register.from_content.Goals as goal

pub returns-in-Some-clause-not_kept : goal.returns-in-Some-clause-not_kept
returns-in-Some-clause-not_kept c = λ id e.
    let os = c.args.ops.items in
    let ms = c.in-Ok.marks in
    let same : c.in-Some.id ≡ id = cc in
    dropped_at os ms c.requires.by_id (c.in-Ok.ensures ∙ ap least_marks c.deref.ensures.value)
    ∙ ap (first_off c.in-Ok.marks) (sym c.deref-2.ensures.value) ∙ sym c.first_replaced.ensures.value ∙ c.in-Some.is ∙ ap Some same

pub invariant_of-result : goal.invariant_of-result
invariant_of-result c =
    own_tables c.args.ops.items c.in-Ok.marks c.args.seen c.requires.by_id
    (c.in-Ok.ensures ∙ ap least_marks c.deref.ensures.value) c.requires.are_seen
    (λ o h. c.in_default.ensures.operations o (ap (λ l. has l o) c.deref-2.ensures.value ∙ h))
    c.run-first.ensures.ids
    (ap (first_off c.in-Ok.marks) (sym c.deref-2.ensures.value) ∙ sym c.first_replaced.ensures.value ∙ c.in_default.is)

pub returns-clause-kept : goal.returns-clause-kept
returns-clause-kept c =
    let os = c.args.ops.items in
    let ms = c.in-Ok.marks in
    dropped_at os ms c.requires.by_id (c.in-Ok.ensures ∙ ap least_marks c.deref.ensures.value)
    ∙ ap (first_off c.in-Ok.marks) (sym c.deref-2.ensures.value) ∙ sym c.first_replaced.ensures.value ∙ c.in_default.is
