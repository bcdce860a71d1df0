use Rattle.std.proofs.Common.{◌≡◌, true, None, Some, sym, ap, ◌∙◌, subst}
use Rattle.reg_op.specs.Set as set
use Rattle.reg_state.specs.declared.mark.Mark.{Mark}
use Rattle.reg_state.specs.MarkSets.{MarkSet, has, is_at}
use Rattle.reg_state.proofs.OrderLemmas.{begins_at, found_at, told_of}
use Rattle.reg_state.proofs.mark_set.Marks.least.Goals as goal

pub returns-in_default-clause-none : goal.returns-in_default-clause-none
returns-in_default-clause-none c =
    let t = λ (m : Mark). is_at c.args.target.now m in
    sym (told_of t _ _ _ _ None (c.first_from.ensures.told t (begins_at c.args.target.now)) c.deref.ensures.value c.self.view_is c.in_default.is)

pub returns-then-is_at-clause-found : goal.returns-then-is_at-clause-found
returns-then-is_at-clause-found c =
    let m = c.in-Some.mark in
    subst (λ (s : MarkSet). set.contains s (record { target = c.args.target.now; id = m.id }) ≡ true) c.self.view_is
    (found_at c.self.inside.marks.items c.args.target.now m (ap (λ xs. has xs m) (sym c.deref.ensures.value) ∙ c.in-Some.ensures.there) (sym c.is_at.ensures ∙ c.if-is_at.true))

pub returns-clause-none : goal.returns-clause-none
returns-clause-none c =
    let t = λ (m : Mark). is_at c.args.target.now m in
    sym (told_of t _ _ _ _ (Some c.in-Some.mark) (c.first_from.ensures.told t (begins_at c.args.target.now)) c.deref.ensures.value c.self.view_is c.in-Some.is) ∙ sym c.is_at.ensures ∙ c.if-is_at.false
