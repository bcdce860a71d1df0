-- If no id has two bodies, the items of a set of operations are strictly ordered by id.
use Rattle.std.proofs.Common.{◌≡◌, Bool, true, false, List, [], ◌∷◌, refl, sym, ap, subst, ◌∙◌}
use Rattle.std.proofs.lemmas.Bool.{true≢false, or_left, or_right}
use Rattle.std.specs.Ordering.{is_lt, is_eq}
use Rattle.std.specs.Cmp.{tied_itself}
use Rattle.reg_op.specs.Set as set
use Rattle.reg_op.specs.Set.{contains-items}
use Rattle.reg_op.specs.Ids.{is_before}
use Rattle.reg_op.specs.Operations.{Op, Ops, op_cmp, OneBody}
use Rattle.reg_op.specs.Lists.{has, AllAfter, ById}
use Rattle.reg_op.proofs.OpLemmas.{op_total}
use Rattle.reg_op.proofs.SetLemmas.{AllAbove, Climbs, items_climb}
use Rattle.reg_op.proofs.ClashLemmas.{NoneBefore, Rises, items_rise, same_id}

after_items : (o : Op) (os : List Op) → AllAbove op_cmp o os → NoneBefore o.id os → ((p : Op) → has os p ≡ true → o.id ≡ p.id → o ≡ p) → AllAfter o.id os
after_items o [] up none one = tt
after_items o (p ∷ os) up none one =
    (here (is_before o.id p.id) refl, after_items o os up.1 none.1 (λ q h. one q (or_right _ (has os q) h)))
  where
    here : (b : Bool) → is_before o.id p.id ≡ b → b ≡ true
    here true e = refl
    here false e =
        let same : o ≡ p = one p (or_left _ (has os p) (ap is_eq (tied_itself op_total p))) (same_id o.id p.id e none.0) in
        absurd (true≢false (sym (subst (λ q. is_lt (op_cmp o q) ≡ true) (sym same) up.0) ∙ ap is_lt (tied_itself op_total o)))

by_id_items : (os : List Op) → Climbs op_cmp os → Rises os → ((p o : Op) → has os p ≡ true → has os o ≡ true → p.id ≡ o.id → p ≡ o) → ById os
by_id_items [] up rise one = tt
by_id_items (o ∷ os) up rise one = (
  after_items o os up.0 rise.0 (λ p h e. one o p (or_left _ (has os o) (ap is_eq (tied_itself op_total o))) (or_right _ (has os p) h) e),
  by_id_items os up.1 rise.1 (λ p q h k e. one p q (or_right _ (has os p) h) (or_right _ (has os q) k) e),
)

pub items_by_id : (s : Ops) → OneBody s → ById (set.items s)
items_by_id s one = by_id_items (set.items s) (items_climb op_cmp s) (items_rise s) (λ p o h k e. one p o (contains-items s p ∙ h) (contains-items s o ∙ k) e)
