use Rattle.std.proofs.Common.{◌≡◌, true, false, not, ◌&&◌, None, sym, ap, ◌∙◌}
use Rattle.std.specs.List.{list_any}
use Rattle.reg_op.specs.Finite.{any}
use Rattle.reg_op.specs.Operations.{Op}
use Rattle.reg_op.specs.Ids.{is_same}
use Rattle.reg_op.specs.Status.{status, is_enter}
use Rattle.reg_state.specs.declared.mark.Mark.{Mark}
use Rattle.reg_state.specs.MarkSets.{is_at}
use Rattle.reg_state.proofs.TableLemmas.{status_at, status_by}
use Rattle.reg_state.proofs.register.Register.status.Goals as goal

pub returns-then-is_none : goal.returns-then-is_none
returns-then-is_none c =
    let xs = c.self.inside.ops.items in
    let ms = c.self.inside.marks in
    let e = c.args.entry in
    let is : status c.args.self.now.ops e ≡ status_by (list_any (λ o. is_same e o.id && is_enter o.body) xs) (any (λ m. is_at (record { entry = e; by = None }) m) ms) (any (λ m. is_same e m.target.entry) ms) =
    sym (ap (λ x. status x.ops e) c.self.view_is) ∙ status_at xs ms c.self.invariant.marked c.self.invariant.is_content.is_kept e in
    let entered : list_any (λ (o : Op). is_same e o.id && is_enter o.body) xs ≡ false =
    ap (list_any (λ (o : Op). is_same e o.id && is_enter o.body)) (sym c.deref.ensures.value) ∙ sym c.definition_in.ensures.told ∙ c.is_none.ensures ∙ ap not c.if-is_none.true in
    sym (is ∙ (λ k. status_by (entered k) (any (λ m. is_at (record { entry = e; by = None }) m) ms) (any (λ m. is_same e m.target.entry) ms)))

pub returns-then-is_marked : goal.returns-then-is_marked
returns-then-is_marked c =
    let xs = c.self.inside.ops.items in
    let ms = c.self.inside.marks in
    let e = c.args.entry in
    let is : status c.args.self.now.ops e ≡ status_by (list_any (λ o. is_same e o.id && is_enter o.body) xs) (any (λ m. is_at (record { entry = e; by = None }) m) ms) (any (λ m. is_same e m.target.entry) ms) =
    sym (ap (λ x. status x.ops e) c.self.view_is) ∙ status_at xs ms c.self.invariant.marked c.self.invariant.is_content.is_kept e in
    let entered : list_any (λ (o : Op). is_same e o.id && is_enter o.body) xs ≡ true =
    ap (list_any (λ (o : Op). is_same e o.id && is_enter o.body)) (sym c.deref.ensures.value) ∙ sym c.definition_in.ensures.told ∙ c.is_none.ensures ∙ ap not c.if-is_none.false in
    let retired : any (λ (m : Mark). is_at (record { entry = e; by = None }) m) ms ≡ true =
    sym c.is_marked.ensures ∙ c.if-is_marked.true in
    sym (is ∙ (λ k. status_by (entered k) (retired k) (any (λ m. is_same e m.target.entry) ms)))

pub returns-then-is_touched : goal.returns-then-is_touched
returns-then-is_touched c =
    let xs = c.self.inside.ops.items in
    let ms = c.self.inside.marks in
    let e = c.args.entry in
    let is : status c.args.self.now.ops e ≡ status_by (list_any (λ o. is_same e o.id && is_enter o.body) xs) (any (λ m. is_at (record { entry = e; by = None }) m) ms) (any (λ m. is_same e m.target.entry) ms) =
    sym (ap (λ x. status x.ops e) c.self.view_is) ∙ status_at xs ms c.self.invariant.marked c.self.invariant.is_content.is_kept e in
    let entered : list_any (λ (o : Op). is_same e o.id && is_enter o.body) xs ≡ true =
    ap (list_any (λ (o : Op). is_same e o.id && is_enter o.body)) (sym c.deref.ensures.value) ∙ sym c.definition_in.ensures.told ∙ c.is_none.ensures ∙ ap not c.if-is_none.false in
    let retired : any (λ (m : Mark). is_at (record { entry = e; by = None }) m) ms ≡ false =
    sym c.is_marked.ensures ∙ c.if-is_marked.false in
    let touched : any (λ (m : Mark). is_same e m.target.entry) ms ≡ true =
    sym c.is_touched.ensures ∙ c.if-is_touched.true in
    sym (is ∙ (λ k. status_by (entered k) (retired k) (touched k)))

pub returns : goal.returns
returns c =
    let xs = c.self.inside.ops.items in
    let ms = c.self.inside.marks in
    let e = c.args.entry in
    let is : status c.args.self.now.ops e ≡ status_by (list_any (λ o. is_same e o.id && is_enter o.body) xs) (any (λ m. is_at (record { entry = e; by = None }) m) ms) (any (λ m. is_same e m.target.entry) ms) =
    sym (ap (λ x. status x.ops e) c.self.view_is) ∙ status_at xs ms c.self.invariant.marked c.self.invariant.is_content.is_kept e in
    let entered : list_any (λ (o : Op). is_same e o.id && is_enter o.body) xs ≡ true =
    ap (list_any (λ (o : Op). is_same e o.id && is_enter o.body)) (sym c.deref.ensures.value) ∙ sym c.definition_in.ensures.told ∙ c.is_none.ensures ∙ ap not c.if-is_none.false in
    let retired : any (λ (m : Mark). is_at (record { entry = e; by = None }) m) ms ≡ false =
    sym c.is_marked.ensures ∙ c.if-is_marked.false in
    let touched : any (λ (m : Mark). is_same e m.target.entry) ms ≡ false =
    sym c.is_touched.ensures ∙ c.if-is_touched.false in
    sym (is ∙ (λ k. status_by (entered k) (retired k) (touched k)))
