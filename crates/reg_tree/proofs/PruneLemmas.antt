-- Pruning changes no saying.
use Rattle.std.proofs.Common.{◌≡◌, Bool, true, not, ◌&&◌, refl, sym, ◌∙◌, subst, inl, inr}
use Rattle.std.proofs.lemmas.Bool.{and_parts, not-true, true≢false}
use Rattle.std.specs.Prelude.{ℕ, List}
use Rattle.std.specs.Cmp.{both_ways}
use Rattle.reg_op.specs.Set.{contains}
use Rattle.reg_op.specs.Finite.{any}
use Rattle.reg_op.specs.Ids.{Id, Ids, is_same, is_before}
use Rattle.reg_op.specs.declared.operation.OpBody.{OpBody as Body}
use Rattle.reg_op.specs.declared.operation.OpBody.TheVariants.{Enter, Supersede, Retire}
use Rattle.reg_op.specs.Operations.{Op, Ops, replaces_body, replaces, kept}
use Rattle.reg_op.specs.Status.{is_retirement, retires}
use Rattle.reg_op.proofs.FiniteLemmas.{any_from_member, member_from_any, topmost_over}
use Rattle.reg_op.proofs.OpLemmas.{op_total, op_exact, is_same_exact, is_same_back, replaces_irreflexive, replaces_chain}
use Rattle.reg_op.proofs.ContentLemmas.{kept_is_within}
use Rattle.reg_op.proofs.StatusLemmas.{any-kept, retires-kept}
use Rattle.reg_tree.specs.Sayings.{Keys, Saying, By, Withdrawn, enters_key, is_entry, is_in_use, tells, says}

-- no operation replaces an Enter
no_enter : {K : Type 0} (has : Keys K) (key : K) (before : Bool) (p x : Body) → replaces_body before p x ≡ true → enters_key has key x ≡ true → ⊥
no_enter has key before (Enter text) x h k = true≢false (sym h)
no_enter has key before p (Supersede old newer) h k = true≢false (sym k)
no_enter has key before p (Retire entry) h k = true≢false (sym k)
no_enter has key before (Supersede a b) (Enter text) h k = true≢false (sym h)
no_enter has key before (Retire a) (Enter text) h k = true≢false (sym h)

is_entry-kept : {K : Type 0} (has : Keys K) (s : Ops) (key : K) (e : Id) → is_entry has (kept s) key e ≡ is_entry has s key e
is_entry-kept has s key e = any-kept (λ o. is_same e o.id && enters_key has key o.body) (λ p x h k. absurd (no_enter has key _ p.body x.body h (and_parts _ _ k).1)) s

is_in_use-kept : {K : Type 0} (has : Keys K) (s : Ops) (key : K) → is_in_use has (kept s) key ≡ is_in_use has s key
is_in_use-kept has s key =
    any-kept (λ o. enters_key has key o.body && not (retires (kept s) o.id)) (λ p x h k. absurd (no_enter has key _ p.body x.body h (and_parts _ _ k).0)) s
    ∙ (λ i. any (λ o. enters_key has key o.body && not (retires-kept s o.id i)) s)

tells-kept : {K : Type 0} (has : Keys K) (s : Ops) (saying : Saying K) (b : Body) → tells has (kept s) saying b ≡ tells has s saying b
tells-kept has s (By old newer) (Enter text) = refl
tells-kept has s (By old newer) (Supersede e n) =
    (λ i. not (is_entry-kept has s old n i) && ((is_entry-kept has s old e i && not (retires-kept s e i)) && (is_entry-kept has s newer n i && not (retires-kept s n i))))
tells-kept has s (By old newer) (Retire e) = refl
tells-kept has s (Withdrawn key) (Enter text) = refl
tells-kept has s (Withdrawn key) (Supersede e n) = refl
tells-kept has s (Withdrawn key) (Retire e) = (λ i. is_entry-kept has s key e i && not (is_in_use-kept has s key i))

-- what replaces an operation that says something says the same
rises_by : {K : Type 0} (has : Keys K) (s : Ops) (old newer : K) (before : Bool) (p x : Body) → ((e : Id) → is_retirement e p ≡ true → retires s e ≡ true) →
    replaces_body before p x ≡ true → tells has s (By old newer) x ≡ true → tells has s (By old newer) p ≡ true
rises_by has s old newer before (Enter text) x r h k = absurd (true≢false (sym h))
rises_by has s old newer before p (Enter text) r h k = absurd (true≢false (sym k))
rises_by has s old newer before p (Retire e) r h k = absurd (true≢false (sym k))
rises_by has s old newer before (Retire f) (Supersede e n) r h k =
    let there = and_parts _ _ (and_parts _ _ (and_parts _ _ k).1).0 in
    absurd (true≢false (sym (r e (is_same_back f e h)) ∙ not-true _ there.1))
rises_by has s old newer before (Supersede a b) (Supersede e n) r h k =
    let p = and_parts _ _ h in
    let q = and_parts _ _ p.1 in
    let is : Supersede e n ≡ Supersede a b = λ i. Supersede (sym (is_same_exact a e p.0) i) (sym (is_same_exact b n q.0) i) in
    subst (λ c. tells has s (By old newer) c ≡ true) is k

rises_withdrawn : {K : Type 0} (has : Keys K) (s : Ops) (key : K) (before : Bool) (p x : Body) → replaces_body before p x ≡ true →
    tells has s (Withdrawn key) x ≡ true → tells has s (Withdrawn key) p ≡ true
rises_withdrawn has s key before (Enter text) x h k = absurd (true≢false (sym h))
rises_withdrawn has s key before p (Enter text) h k = absurd (true≢false (sym k))
rises_withdrawn has s key before p (Supersede e n) h k = absurd (true≢false (sym k))
rises_withdrawn has s key before (Supersede a b) (Retire e) h k = absurd (true≢false (sym h))
rises_withdrawn has s key before (Retire f) (Retire e) h k =
    subst (λ c. tells has s (Withdrawn key) (Retire c) ≡ true) (sym (is_same_exact f e (and_parts _ _ h).0)) k

rises : {K : Type 0} (has : Keys K) (s : Ops) (saying : Saying K) (p x : Op) → contains s p ≡ true → replaces p x ≡ true → tells has s saying x.body ≡ true → tells has s saying p.body ≡ true
rises has s (By old newer) p x m h k =
    rises_by has s old newer (is_before p.id x.id) p.body x.body (λ e r. any_from_member op_total op_exact (λ o. is_retirement e o.body) s p m r) h k
rises has s (Withdrawn key) p x m h k = rises_withdrawn has s key (is_before p.id x.id) p.body x.body h k

pub says-kept : {K : Type 0} (has : Keys K) (s : Ops) (seen : Ids) (saying : Saying K) →
    says has (record { ops = kept s; seen = seen }) saying ≡ says has (record { ops = s; seen = seen }) saying
says-kept has s seen saying =
    (λ i. any (λ o. tells-kept has s saying o.body i) (kept s))
    ∙ both_ways _ _
    (λ h. let r = member_from_any op_total op_exact t (kept s) h in any_from_member op_total op_exact t s r.0 (kept_is_within s r.0 r.1) r.2)
    (λ h.
    let r = member_from_any op_total op_exact t s h in
    let y = topmost_over op_total op_exact replaces replaces_irreflexive replaces_chain s r.0 r.1 in
    any_from_member op_total op_exact t (kept s) y.0 y.1 (elim y.2 [
      | inl e ↦ subst (λ (o : Op). t o ≡ true) (sym e) r.2
      | inr over ↦ rises has s saying y.0 r.0 (kept_is_within s y.0 y.1) over r.2
    ]))
  where
    t : Op → Bool
    t = λ o. tells has s saying o.body
