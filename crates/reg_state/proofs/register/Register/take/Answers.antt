use Rattle.std.proofs.Common.{◌≡◌, ◌∷◌, [], Ok, Err, None, Some, sym, ap, ◌∙◌}
use Rattle.reg_op.specs.Operations.{one}
use Rattle.reg_op.specs.Contents.{state, merged, joined, joined_unless}
use Rattle.reg_state.specs.declared.register.TakeFault.{TakeFault}
use Rattle.reg_state.specs.Merge.{clash_in}
use Rattle.reg_state.proofs.TableLemmas.{err_same, ok_not_err}
use Rattle.reg_state.proofs.TakeLemmas.{taken_is, none_clash, taken_ok}
use Rattle.reg_state.proofs.register.Register.take.Goals as goal

pub returns-in-Some-clause-clash : goal.returns-in-Some-clause-clash
returns-in-Some-clause-clash c = λ id.
    let x = c.args.self.now in
    let o = c.args.op in
    let at : clash_in c.self.inside.ops.items (o ∷ []) ≡ Some c.in-Some.id = (λ k. clash_in (sym c.deref.ensures.value k) (sym c.from_ref.ensures.value k)) ∙ sym c.first_clash.ensures ∙ c.in-Some.is in
    let is : joined x (state (one o)) ≡ Err c.in-Some.id =
    taken_is c.self.inside.ops.items _ c.self.inside.seen x o c.self.invariant c.self.view_is ∙ ap (λ r. joined_unless r (merged x (state (one o)))) at in
    (λ e. let same : c.in-Some.id ≡ id = cc in is ∙ ap Err same, λ e. ap (λ i. Err (TakeFault.Clash i)) (err_same c.in-Some.id id (sym is ∙ e)))

pub put-requires : goal.put-requires
put-requires c =
    let o = c.args.op in
    let at : clash_in c.self.inside.ops.items (o ∷ []) ≡ None = (λ k. clash_in (sym c.deref.ensures.value k) (sym c.from_ref.ensures.value k)) ∙ sym c.first_clash.ensures ∙ c.in_default.is in
    none_clash c.self.inside.ops.items _ c.self.inside.seen c.args.self.now o c.self.invariant c.self.view_is at

pub returns-in-Ok-clause-ok : goal.returns-in-Ok-clause-ok
returns-in-Ok-clause-ok c =
    let o = c.args.op in
    let at : clash_in c.self.inside.ops.items (o ∷ []) ≡ None = (λ k. clash_in (sym c.deref.ensures.value k) (sym c.from_ref.ensures.value k)) ∙ sym c.first_clash.ensures ∙ c.in_default.is in
    taken_ok c.args.self.now o (none_clash c.self.inside.ops.items _ c.self.inside.seen c.args.self.now o c.self.invariant c.self.view_is at)
    ∙ ap Ok (sym c.in-Ok.ensures.ok)

pub returns-in-Ok-clause-clash : goal.returns-in-Ok-clause-clash
returns-in-Ok-clause-clash c = λ id.
    let o = c.args.op in
    let at : clash_in c.self.inside.ops.items (o ∷ []) ≡ None = (λ k. clash_in (sym c.deref.ensures.value k) (sym c.from_ref.ensures.value k)) ∙ sym c.first_clash.ensures ∙ c.in_default.is in
    let ok = taken_ok c.args.self.now o (none_clash c.self.inside.ops.items _ c.self.inside.seen c.args.self.now o c.self.invariant c.self.view_is at) in
    (λ e. cc, λ e. absurd (ok_not_err _ id (sym ok ∙ e)))

pub returns-in-Err-clause-clash : goal.returns-in-Err-clause-clash
returns-in-Err-clause-clash c = λ id.
    let o = c.args.op in
    let at : clash_in c.self.inside.ops.items (o ∷ []) ≡ None = (λ k. clash_in (sym c.deref.ensures.value k) (sym c.from_ref.ensures.value k)) ∙ sym c.first_clash.ensures ∙ c.in_default.is in
    let ok = taken_ok c.args.self.now o (none_clash c.self.inside.ops.items _ c.self.inside.seen c.args.self.now o c.self.invariant c.self.view_is at) in
    (λ e. cc, λ e. absurd (ok_not_err _ id (sym ok ∙ e)))
