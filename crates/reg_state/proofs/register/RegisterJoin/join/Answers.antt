use Rattle.std.proofs.Common.{◌≡◌, Ok, Err, None, Some, sym, ap, ◌∙◌, subst}
use Rattle.reg_op.specs.Set as set
use Rattle.reg_op.specs.Operations.{OneBody}
use Rattle.reg_op.specs.Contents.{merged, joined, joined_unless}
use Rattle.reg_op.proofs.ContentLemmas.{joined_content}
use Rattle.reg_op.specs.declared.joining.JoinFault.{JoinFault}
use Rattle.reg_state.specs.Merge.{clash_in}
use Rattle.reg_op.specs.Lists.{content_at}
use Rattle.reg_state.proofs.TableLemmas.{joined_is, one_body_of, err_same, ok_not_err}
use Rattle.reg_state.proofs.register.RegisterJoin.join.Goals as goal

pub returns-in-Some-clause-clash : goal.returns-in-Some-clause-clash
returns-in-Some-clause-clash c = λ id.
    let xs = c.self.inside.ops.items in
    let ys = c.other.inside.ops.items in
    let at : clash_in xs ys ≡ Some c.in-Some.id = (λ k. clash_in (sym c.deref.ensures.value k) (sym c.deref-2.ensures.value k)) ∙ sym c.first_clash.ensures ∙ c.in-Some.is in
    let is : joined c.args.self.now c.args.other.now ≡ Err c.in-Some.id =
    (λ k. joined (sym c.self.view_is k) (sym c.other.view_is k))
    ∙ joined_is xs ys _ _ c.self.inside.seen c.other.inside.seen c.self.invariant c.other.invariant
    ∙ ap (λ r. joined_unless r (merged (content_at xs c.self.inside.seen) (content_at ys c.other.inside.seen))) at in
    (λ e. let same : c.in-Some.id ≡ id = cc in is ∙ ap Err same, λ e. ap (λ i. Err (JoinFault.Clash i)) (err_same c.in-Some.id id (sym is ∙ e)))

pub merge-requires : goal.merge-requires
merge-requires c =
    let xs = c.self.inside.ops.items in
    let ys = c.other.inside.ops.items in
    let at : clash_in xs ys ≡ None = (λ k. clash_in (sym c.deref.ensures.value k) (sym c.deref-2.ensures.value k)) ∙ sym c.first_clash.ensures ∙ c.in_default.is in
    subst OneBody (λ k. set.union (c.self.view_is k).ops (c.other.view_is k).ops)
    (one_body_of xs ys _ _ c.self.inside.seen c.other.inside.seen c.self.invariant c.other.invariant at)

pub returns-in-Ok-clause-ok : goal.returns-in-Ok-clause-ok
returns-in-Ok-clause-ok c =
    let xs = c.self.inside.ops.items in
    let ys = c.other.inside.ops.items in
    let at : clash_in xs ys ≡ None = (λ k. clash_in (sym c.deref.ensures.value k) (sym c.deref-2.ensures.value k)) ∙ sym c.first_clash.ensures ∙ c.in_default.is in
    let one : OneBody (set.union c.args.self.now.ops c.args.other.now.ops) =
    subst OneBody (λ k. set.union (c.self.view_is k).ops (c.other.view_is k).ops)
    (one_body_of xs ys _ _ c.self.inside.seen c.other.inside.seen c.self.invariant c.other.invariant at) in
    joined_content c.args.self.now c.args.other.now one ∙ ap Ok (sym c.in-Ok.ensures)

pub returns-in-Ok-clause-clash : goal.returns-in-Ok-clause-clash
returns-in-Ok-clause-clash c = λ id.
    let xs = c.self.inside.ops.items in
    let ys = c.other.inside.ops.items in
    let at : clash_in xs ys ≡ None = (λ k. clash_in (sym c.deref.ensures.value k) (sym c.deref-2.ensures.value k)) ∙ sym c.first_clash.ensures ∙ c.in_default.is in
    let one : OneBody (set.union c.args.self.now.ops c.args.other.now.ops) =
    subst OneBody (λ k. set.union (c.self.view_is k).ops (c.other.view_is k).ops)
    (one_body_of xs ys _ _ c.self.inside.seen c.other.inside.seen c.self.invariant c.other.invariant at) in
    (λ e. cc, λ e. absurd (ok_not_err _ id (sym (joined_content c.args.self.now c.args.other.now one) ∙ e)))

pub returns-in-Err-clause-clash : goal.returns-in-Err-clause-clash
returns-in-Err-clause-clash c = λ id.
    let xs = c.self.inside.ops.items in
    let ys = c.other.inside.ops.items in
    let at : clash_in xs ys ≡ None = (λ k. clash_in (sym c.deref.ensures.value k) (sym c.deref-2.ensures.value k)) ∙ sym c.first_clash.ensures ∙ c.in_default.is in
    let one : OneBody (set.union c.args.self.now.ops c.args.other.now.ops) =
    subst OneBody (λ k. set.union (c.self.view_is k).ops (c.other.view_is k).ops)
    (one_body_of xs ys _ _ c.self.inside.seen c.other.inside.seen c.self.invariant c.other.invariant at) in
    (λ e. cc, λ e. absurd (ok_not_err _ id (sym (joined_content c.args.self.now c.args.other.now one) ∙ e)))
