-- What more supersessions say: all that was said, and more.
use Rattle.std.proofs.Common.{◌≡◌, Bool, true, false, not, ◌&&◌, ◌||◌, List, [], ◌∷◌, Ok, refl, sym, ◌∙◌, subst, inl, inr, ◌⊎◌}
use Rattle.std.proofs.lemmas.Bool.{and_parts, or_cases, false_from_ne_true, true≢false}
use Rattle.std.specs.Prelude.{ℕ}
use Rattle.std.specs.Cmp.{both_ways}
use Rattle.reg_op.specs.Set.{contains, union}
use Rattle.reg_op.specs.Finite.{any}
use Rattle.reg_op.specs.Ids.{Id, is_same}
use Rattle.reg_op.specs.declared.operation.OpBody.{OpBody as Body}
use Rattle.reg_op.specs.declared.operation.OpBody.TheVariants.{Enter, Supersede, Retire}
use Rattle.reg_op.specs.Operations.{Op, Ops, ids}
use Rattle.reg_op.specs.Contents.{Content, state, joined}
use Rattle.reg_op.specs.Status.{is_retirement, retires}
use Rattle.reg_op.proofs.FiniteLemmas.{any_from_member, member_from_any}
use Rattle.reg_op.proofs.OpLemmas.{op_total, op_exact}
use Rattle.reg_op.proofs.ContentLemmas.{contains_op-union, merged-state, union_left, union_right}
use Rattle.reg_op.proofs.JoinLemmas.{joined_ok}
use Rattle.reg_tree.specs.Sayings.{Keys, Saying, By, Withdrawn, enters_key, is_entry, is_in_use, tells, says, undone, is_link}
use Rattle.reg_tree.proofs.ListLemmas.{contains_cases, any_at}
use Rattle.reg_tree.proofs.SayingLemmas.{owed, said}
use Rattle.reg_tree.proofs.PruneLemmas.{says-kept}

-- what an operation of a set says, the content of the set says
pub accepted : {K : Type 0} (has : Keys K) (s : Ops) (o : Op) (saying : Saying K) → contains s o ≡ true → tells has s saying o.body ≡ true → says has (state s) saying ≡ true
accepted has s o saying m t = says-kept has s (ids s) saying ∙ any_from_member op_total op_exact (λ p. tells has s saying p.body) s o m t

link_retires : (e : Id) (b : Body) → is_link b ≡ true → is_retirement e b ≡ true → ⊥
link_retires e (Enter text) h k = true≢false (sym h)
link_retires e (Supersede old newer) h k = true≢false (sym k)
link_retires e (Retire entry) h k = true≢false (sym h)

link_enters : {K : Type 0} (has : Keys K) (key : K) (b : Body) → is_link b ≡ true → enters_key has key b ≡ true → ⊥
link_enters has key (Enter text) h k = true≢false (sym h)
link_enters has key (Supersede old newer) h k = true≢false (sym k)
link_enters has key (Retire entry) h k = true≢false (sym h)

-- t has all of s, and besides only supersessions
module _ (s t : Ops) (within : (o : Op) → contains s o ≡ true → contains t o ≡ true) (links : (o : Op) → contains t o ≡ true → (contains s o ≡ true) ⊎ (is_link o.body ≡ true)) where
  any_stays : (u : Op → Bool) → ((o : Op) → is_link o.body ≡ true → u o ≡ true → ⊥) → any u t ≡ any u s
  any_stays u never = both_ways _ _
      (λ h.
      let r = member_from_any op_total op_exact u t h in
      elim (links r.0 r.1) [
        | inl m ↦ any_from_member op_total op_exact u s r.0 m r.2
        | inr l ↦ absurd (never r.0 l r.2)
      ])
      (λ h. let r = member_from_any op_total op_exact u s h in any_from_member op_total op_exact u t r.0 (within r.0 r.1) r.2)

  retires_stays : (e : Id) → retires t e ≡ retires s e
  retires_stays e = any_stays (λ o. is_retirement e o.body) (λ o. link_retires e o.body)

  entry_stays : {K : Type 0} (has : Keys K) (key : K) (e : Id) → is_entry has t key e ≡ is_entry has s key e
  entry_stays has key e = any_stays (λ o. is_same e o.id && enters_key has key o.body) (λ o l h. link_enters has key o.body l (and_parts _ _ h).1)

  use_stays : {K : Type 0} (has : Keys K) (key : K) → is_in_use has t key ≡ is_in_use has s key
  use_stays has key =
      any_stays (λ o. enters_key has key o.body && not (retires t o.id)) (λ o l h. link_enters has key o.body l (and_parts _ _ h).0)
      ∙ (λ i. any (λ o. enters_key has key o.body && not (retires_stays o.id i)) s)

  tells_stays : {K : Type 0} (has : Keys K) (saying : Saying K) (b : Body) → tells has t saying b ≡ tells has s saying b
  tells_stays has (By old newer) (Enter text) = refl
  tells_stays has (By old newer) (Supersede e n) =
      (λ i. not (entry_stays has old n i) && ((entry_stays has old e i && not (retires_stays e i)) && (entry_stays has newer n i && not (retires_stays n i))))
  tells_stays has (By old newer) (Retire e) = refl
  tells_stays has (Withdrawn key) (Enter text) = refl
  tells_stays has (Withdrawn key) (Supersede e n) = refl
  tells_stays has (Withdrawn key) (Retire e) = (λ i. entry_stays has key e i && not (use_stays has key i))

  pub says_more : {K : Type 0} (has : Keys K) (saying : Saying K) → says has (state s) saying ≡ true → says has (state t) saying ≡ true
  says_more has saying h =
      let r = member_from_any op_total op_exact (λ o. tells has s saying o.body) s (sym (says-kept has s (ids s) saying) ∙ h) in
      accepted has t r.0 saying (within r.0 r.1) (tells_stays has saying r.0.body ∙ r.2)

-- two that add supersessions to the same operations
pub at_once : {K : Type 0} (has : Keys K) (s a b : Ops) (z : Content) (saying : Saying K) → ((o : Op) → contains a o ≡ true → is_link o.body ≡ true) →
    ((o : Op) → contains b o ≡ true → is_link o.body ≡ true) → joined (state (union s a)) (state (union s b)) ≡ Ok z →
    ((says has (state (union s a)) saying || says has (state (union s b)) saying) ≡ true → says has z saying ≡ true)
    × (undone has (state (union s a) ∷ state (union s b) ∷ []) z saying ≡ false)
at_once has s a b z saying link_a link_b e = (
  λ h. elim (or_cases (says has (state (union s a)) saying) _ h) [
    | inl l ↦ more_left l
    | inr r ↦ more_right r
  ],
  false_from_ne_true _ (λ h.
      let r = owed has (state (union s a) ∷ state (union s b) ∷ []) z saying h in
      let t = said has r.1.x saying r.1.o r.1.there r.1.told in
      let yes : says has z saying ≡ true = elim (contains_cases (state (union s a)) (state (union s b) ∷ []) r.1.x r.1.input) [
        | inl i ↦ more_left (subst (λ v. says has v saying ≡ true) (sym i) t)
        | inr d ↦ elim (contains_cases (state (union s b)) [] r.1.x d) [
          | inl i ↦ more_right (subst (λ v. says has v saying ≡ true) (sym i) t)
          | inr n ↦ absurd (true≢false (sym (any_at (λ (v : Content). true) [] r.1.x n refl)))
        ]
      ] in
      true≢false (sym yes ∙ r.0)),
)
  where
    both : Ops
    both = union (union s a) (union s b)

    is : state both ≡ z
    is = sym (merged-state (union s a) (union s b)) ∙ (joined_ok (state (union s a)) (state (union s b)) z e).1

    parts : (u v : Ops) (o : Op) → contains (union u v) o ≡ true → (contains u o ≡ true) ⊎ (contains v o ≡ true)
    parts u v o h = or_cases (contains u o) (contains v o) (sym (contains_op-union u v o) ∙ h)

    more_left : says has (state (union s a)) saying ≡ true → says has z saying ≡ true
    more_left h = subst (λ v. says has v saying ≡ true) is (says_more (union s a) both (union_left (union s a) (union s b)) (λ o m.
        elim (parts (union s a) (union s b) o m) [
          | inl l ↦ inl l
          | inr r ↦ elim (parts s b o r) [
            | inl l ↦ inl (union_left s a o l)
            | inr k ↦ inr (link_b o k)
          ]
        ]) has saying h)

    more_right : says has (state (union s b)) saying ≡ true → says has z saying ≡ true
    more_right h = subst (λ v. says has v saying ≡ true) is (says_more (union s b) both (union_right (union s a) (union s b)) (λ o m.
        elim (parts (union s a) (union s b) o m) [
          | inr r ↦ inl r
          | inl l ↦ elim (parts s a o l) [
            | inl k ↦ inl (union_left s b o k)
            | inr k ↦ inr (link_a o k)
          ]
        ]) has saying h)
