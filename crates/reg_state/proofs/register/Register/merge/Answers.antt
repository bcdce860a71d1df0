use Rattle.std.proofs.Common.{◌≡◌, ◌&&◌, ◌||◌, List, sym, ap, ◌∙◌, subst}
use Rattle.reg_op.specs.Set as set
use Rattle.reg_op.specs.Operations.{Op}
use Rattle.reg_op.specs.Operations.{OneBody, op_cmp}
use Rattle.reg_op.specs.Contents.{merged}
use Rattle.reg_op.specs.Lists.{has}
use Rattle.reg_state.specs.Merge.{Agree, stays}
use Rattle.reg_state.proofs.TableLemmas.{agree_from, kept_is, merged_at, merged_tables, kept_off, united_same}
use Rattle.reg_state.proofs.MarkJoin.{marks_of_join, joined_same}
use Rattle.reg_state.proofs.register.Register.merge.Goals as goal

pub join_ops-requires-clause-agree : goal.join_ops-requires-clause-agree
join_ops-requires-clause-agree c =
    let one : OneBody (set.union (set.from_list {R = op_cmp} c.self.inside.ops.items) (set.from_list {R = op_cmp} c.other.inside.ops.items)) =
    subst OneBody (λ k. set.union (sym c.self.view_is k).ops (sym c.other.view_is k).ops) c.requires in
    subst (λ (p : List Op × List Op). Agree p.0 p.1) (λ k. (sym c.deref.ensures.value k, sym c.deref-2.ensures.value k)) (agree_from _ _ one)

pub join_ops-requires-clause-left_kept : goal.join_ops-requires-clause-left_kept
join_ops-requires-clause-left_kept c = λ q h.
    kept_off c.self.inside.ops.items c.self.inside.marks c.self.inside.seen c.self.invariant q (ap (λ xs. has xs q) (sym c.deref.ensures.value) ∙ h)

pub join_ops-requires-clause-right_kept : goal.join_ops-requires-clause-right_kept
join_ops-requires-clause-right_kept c = λ q h.
    kept_off c.other.inside.ops.items c.other.inside.marks c.other.inside.seen c.other.invariant q (ap (λ xs. has xs q) (sym c.deref-2.ensures.value) ∙ h)

pub invariant_of-result : goal.invariant_of-result
invariant_of-result c =
    let xs = c.self.inside.ops.items in
    let ys = c.other.inside.ops.items in
    let one : OneBody (set.union (set.from_list {R = op_cmp} xs) (set.from_list {R = op_cmp} ys)) =
    subst OneBody (λ k. set.union (sym c.self.view_is k).ops (sym c.other.view_is k).ops) c.requires in
    let covered : (q : Op) → has c.in_ok-ops.ops.items q ≡ (stays c.self.inside.marks c.other.inside.marks q && (has xs q || has ys q)) =
    λ q. c.in_ok-ops.ensures.covered q ∙ (λ k. stays c.self.inside.marks c.other.inside.marks q && (has (c.deref.ensures.value k) q || has (c.deref-2.ensures.value k) q)) in
    merged_tables xs ys _ c.self.inside.marks c.other.inside.marks _ c.self.inside.seen c.other.inside.seen _ c.self.invariant c.other.invariant one c.in_ok-ops.ensures.by_id covered
    (sym (united_same _ _ c.in-Ok-join.ensures.ok))
    (marks_of_join xs ys _ c.self.inside.marks c.other.inside.marks _ c.self.invariant.marked c.other.invariant.marked
    (kept_is xs ys _ c.self.inside.marks c.other.inside.marks c.self.invariant.marked c.other.invariant.marked covered)
    (sym (joined_same _ _ c.in-Ok.ensures.ok)))

pub returns-in-Ok-join : goal.returns-in-Ok-join
returns-in-Ok-join c =
    merged_at c.self.inside.ops.items c.other.inside.ops.items _ c.self.inside.marks c.other.inside.marks c.self.inside.seen c.other.inside.seen _ c.self.invariant c.other.invariant
    (λ q. c.in_ok-ops.ensures.covered q ∙ (λ k. stays c.self.inside.marks c.other.inside.marks q && (has (c.deref.ensures.value k) q || has (c.deref-2.ensures.value k) q)))
    (sym (united_same _ _ c.in-Ok-join.ensures.ok))
    ∙ (λ k. merged (c.self.view_is k) (c.other.view_is k))
