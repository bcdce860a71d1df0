-- What is undone was said, and is lost; what is lost is undone, if nobody who knew the operation took the saying back.
use Rattle.std.proofs.Common.{◌≡◌, true, false, not, ◌&&◌, ◌||◌, List, [], ◌∷◌, Ok, refl, sym, ap, ◌∙◌, subst, inl, inr, ◌⊎◌}
use Rattle.std.proofs.lemmas.Bool.{and_from, and_parts, or_left, or_right, cases_Bool, not-true, not_from_false, false_from_ne_true, true≢false}
use Rattle.std.specs.Prelude.{Contains}
use Rattle.std.specs.Cmp.{both_ways}
use Rattle.std.specs.List.{list_any}
use Rattle.reg_op.specs.Set.{contains, union, contains-union, same_set}
use Rattle.reg_op.specs.Operations.{Op, Ops}
use Rattle.reg_op.specs.Contents.{Content, state, merged, joined, IsContent}
use Rattle.reg_op.proofs.FiniteLemmas.{any_from_member, member_from_any}
use Rattle.reg_op.proofs.OpLemmas.{id_total, op_total, op_exact}
use Rattle.reg_op.proofs.ContentLemmas.{kept_is_within, ids_has, merged-state, merged_comm, merged_again, union_left, union_within}
use Rattle.reg_op.proofs.JoinLemmas.{joined_ok, joined_is_content}
use Rattle.reg_tree.specs.Sayings.{Keys, Saying, tells, says, unsays, is_owed, undone}
use Rattle.reg_tree.proofs.ListLemmas.{contains_cases, contains_head, any_at, any_has}

pub said : {K : Type 0} (has : Keys K) (x : Content) (s : Saying K) (o : Op) → contains x.ops o ≡ true → tells has x.ops s o.body ≡ true → says has x s ≡ true
said has x s o m t = any_from_member op_total op_exact (λ p. tells has x.ops s p.body) x.ops o m t

-- the operation by which an input is owed
pub record Owed {K : Type 0} (has : Keys K) (xs : List Content) (s : Saying K) : Type 0 where
  pub x : Content
  pub o : Op
  pub input : Contains xs x
  pub there : contains x.ops o ≡ true
  pub told : tells has x.ops s o.body ≡ true
  pub knew : list_any (unsays has s o.id) xs ≡ false

pub owed : {K : Type 0} (has : Keys K) (xs : List Content) (z : Content) (s : Saying K) → undone has xs z s ≡ true → (says has z s ≡ false) × Owed has xs s
owed has xs z s h =
    let p = and_parts (not (says has z s)) (list_any (is_owed has xs s) xs) h in
    let r = any_has (is_owed has xs s) xs p.1 in
    let m = member_from_any op_total op_exact (λ o. tells has r.0.ops s o.body && not (list_any (unsays has s o.id) xs)) r.0.ops r.2 in
    let q = and_parts (tells has r.0.ops s m.0.body) (not (list_any (unsays has s m.0.id) xs)) m.2 in
    (not-true _ p.0, record { x = r.0; o = m.0; input = r.1; there = m.1; told = q.0; knew = not-true _ q.1 })

pub is_undone : {K : Type 0} (has : Keys K) (xs : List Content) (z : Content) (s : Saying K) → says has z s ≡ false → Owed has xs s → undone has xs z s ≡ true
is_undone has xs z s n w =
    and_from _ _ (not_from_false _ n)
    (any_at (is_owed has xs s) xs w.x w.input
    (any_from_member op_total op_exact (λ o. tells has w.x.ops s o.body && not (list_any (unsays has s o.id) xs)) w.x.ops w.o w.there
    (and_from _ _ w.told (not_from_false _ w.knew))))

pub undone_is_lost : {K : Type 0} (has : Keys K) (xs : List Content) (z : Content) (s : Saying K) → undone has xs z s ≡ true →
    (says has z s ≡ false) × (list_any (λ x. says has x s) xs ≡ true)
undone_is_lost has xs z s h =
    let r = owed has xs z s h in
    (r.0, any_at (λ x. says has x s) xs r.1.x r.1.input (said has r.1.x s r.1.o r.1.there r.1.told))

pub all_say : {K : Type 0} (has : Keys K) (xs : List Content) (z x : Content) (s : Saying K) (o : Op) → Contains xs x → contains x.ops o ≡ true →
    tells has x.ops s o.body ≡ true → ((y : Content) → Contains xs y → contains y.seen o.id ≡ true → says has y s ≡ true) →
    (says has z s || undone has xs z s) ≡ true
all_say has xs z x s o c m t all =
    elim (cases_Bool (says has z s)) [
      | inl e ↦ or_left (says has z s) _ e
      | inr n ↦ or_right (says has z s) _ (is_undone has xs z s n (record { x = x; o = o; input = c; there = m; told = t; knew = nobody }))
    ]
  where
    nobody : list_any (unsays has s o.id) xs ≡ false
    nobody = false_from_ne_true _ (λ h.
        let r = any_has (unsays has s o.id) xs h in
        let p = and_parts (contains r.0.seen o.id) (not (says has r.0 s)) r.2 in
        true≢false (sym (all r.0 r.1 p.0) ∙ not-true _ p.1))

pub alone : {K : Type 0} (has : Keys K) (xs : List Content) (z x : Content) (s : Saying K) (o : Op) → Contains xs x → contains x.ops o ≡ true →
    tells has x.ops s o.body ≡ true → ((y : Content) → Contains xs y → (y ≡ x) ⊎ (contains y.seen o.id ≡ false)) →
    (says has z s || undone has xs z s) ≡ true
alone has xs z x s o c m t only = all_say has xs z x s o c m t (λ y d seen. elim (only y d) [
  | inl e ↦ subst (λ w. says has w s ≡ true) (sym e) (said has x s o m t)
  | inr n ↦ absurd (true≢false (sym seen ∙ n))
])

pub taken_back : {K : Type 0} (has : Keys K) (xs : List Content) (z : Content) (s : Saying K) →
    ((x : Content) (o : Op) → Contains xs x → contains x.ops o ≡ true → tells has x.ops s o.body ≡ true →
    (y : Content) × Contains xs y × (contains y.seen o.id ≡ true) × (says has y s ≡ false)) →
    undone has xs z s ≡ false
taken_back has xs z s back = false_from_ne_true _ (λ h.
    let r = owed has xs z s h in
    let y = back r.1.x r.1.o r.1.input r.1.there r.1.told in
    true≢false (sym (any_at (unsays has s r.1.o.id) xs y.0 y.1 (and_from _ _ y.2 (not_from_false _ y.3))) ∙ r.1.knew))

-- ---- an input that has seen all, and is the join

pub all_seen : {K : Type 0} (has : Keys K) (xs : List Content) (z : Content) (s : Saying K) → Contains xs z →
    ((x : Content) (o : Op) → Contains xs x → contains x.ops o ≡ true → contains z.seen o.id ≡ true) → undone has xs z s ≡ false
all_seen has xs z s c seen = false_from_ne_true _ (λ h.
    let r = owed has xs z s h in
    true≢false (sym (any_at (unsays has s r.1.o.id) xs z c (and_from _ _ (seen r.1.x r.1.o r.1.input r.1.there) (not_from_false _ r.0))) ∙ r.1.knew))

pub silent_two : {K : Type 0} (has : Keys K) (z x w : Content) (s : Saying K) → z ≡ w → ((o : Op) → contains z.ops o ≡ true → contains z.seen o.id ≡ true) →
    ((o : Op) → contains x.ops o ≡ true → contains z.seen o.id ≡ true) → undone has (z ∷ x ∷ []) w s ≡ false
silent_two has z x w s is own other = subst (λ v. undone has (z ∷ x ∷ []) v s ≡ false) is (all_seen has (z ∷ x ∷ []) z s (contains_head z (x ∷ [])) seen)
  where
    seen : (y : Content) (o : Op) → Contains (z ∷ x ∷ []) y → contains y.ops o ≡ true → contains z.seen o.id ≡ true
    seen y o c m = elim (contains_cases z (x ∷ []) y c) [
      | inl e ↦ own o (subst (λ v. contains v.ops o ≡ true) (sym e) m)
      | inr d ↦ elim (contains_cases x [] y d) [
        | inl e ↦ other o (subst (λ v. contains v.ops o ≡ true) (sym e) m)
        | inr n ↦ absurd (nothing_in y n)
      ]
    ]
      where
        nothing_in : (v : Content) → Contains [] v → ⊥
        nothing_in v k = true≢false (sym (any_at (λ _. true) [] v k refl))

pub silent_part : {K : Type 0} (has : Keys K) (whole part : Ops) (z : Content) (s : Saying K) → ((o : Op) → contains part o ≡ true → contains whole o ≡ true) →
    joined (state whole) (state part) ≡ Ok z → undone has (state whole ∷ state part ∷ []) z s ≡ false
silent_part has whole part z s within e =
    let same : union whole part ≡ whole = same_set op_total op_exact _ _ (λ o. both_ways _ _
    (union_within whole part whole (λ p h. h) within o) (union_left whole part o)) in
    let is : state whole ≡ z = ap state (sym same) ∙ sym (merged-state whole part) ∙ (joined_ok (state whole) (state part) z e).1 in
    silent_two has (state whole) (state part) z s is
    (λ o h. ids_has whole o (kept_is_within whole o h))
    (λ o h. ids_has whole o (within o (kept_is_within part o h)))

pub silent_once : {K : Type 0} (has : Keys K) (x y z w : Content) (s : Saying K) → IsContent x → IsContent y → joined x y ≡ Ok z → joined z x ≡ Ok w →
    undone has (z ∷ x ∷ []) w s ≡ false
silent_once has x y z w s c d e f =
    let is : merged x y ≡ z = (joined_ok x y z e).1 in
    let again : merged z x ≡ w = (joined_ok z x w f).1 in
    let same : z ≡ w = sym is ∙ sym (merged_again x y) ∙ ap (merged x) is ∙ merged_comm x z ∙ again in
    silent_two has z x w s same
    (joined_is_content x y z c d e).are_seen
    (λ o h. ap (λ v. contains v.seen o.id) (sym is) ∙ contains-union id_total x.seen y.seen o.id ∙ or_left _ _ (c.are_seen o h))
