-- The status of an entry in the kept operations is its status in the whole set.
use Rattle.std.proofs.Common.{◌≡◌, Bool, true, false, not, ◌&&◌, ◌||◌, cond, Some, None, refl, sym, ap, ◌∙◌, subst, inl, inr}
use Rattle.std.proofs.lemmas.Bool.{and_from, and_parts, or_left, or_cases, true≢false}
use Rattle.reg_op.specs.Set as set
use Rattle.reg_op.specs.Ids.{Id, is_same}
use Rattle.reg_op.specs.Finite.{any}
use Rattle.reg_op.specs.Operations.{Body, Enter, Supersede, Retire, Op, Ops, replaces_body, replaces, kept}
use Rattle.reg_op.specs.Status.{Retired, Superseded, Valid, is_enter, is_retirement, is_supersession, enters, retires, supersedes, status, is_replaced_by}
use Rattle.reg_op.proofs.FiniteLemmas.{any-topmost, list_any-or}
use Rattle.reg_op.proofs.OpLemmas.{op_total, op_exact, replaces_irreflexive, replaces_chain, is_same_chain, is_same_back, is_same_exact}

-- for a test that holds of p if p replaces an operation that passes, `kept` does not change whether some operation passes
pub any-kept : (t : Op → Bool) → ((p x : Op) → replaces p x ≡ true → t x ≡ true → t p ≡ true) → (s : Ops) → any t (kept s) ≡ any t s
any-kept t rises s = any-topmost op_total op_exact replaces replaces_irreflexive replaces_chain t rises s

-- no operation replaces an Enter
enter_stays : (before : Bool) (p x : Body) → replaces_body before p x ≡ true → is_enter x ≡ true → ⊥
enter_stays before (Enter text) x h k = true≢false (sym h)
enter_stays before p (Supersede old newer) h k = true≢false (sym k)
enter_stays before p (Retire entry) h k = true≢false (sym k)
enter_stays before (Supersede a b) (Enter text) h k = true≢false (sym h)
enter_stays before (Retire a) (Enter text) h k = true≢false (sym h)

pub enters-kept : (s : Ops) (e : Id) → enters (kept s) e ≡ enters s e
enters-kept s e = any-kept (λ o. is_same e o.id && is_enter o.body) (λ p x h k. absurd (enter_stays _ p.body x.body h (and_parts _ _ k).1)) s

-- an operation that replaces a retirement of e is a retirement of e
retirement_rises : (e : Id) (before : Bool) (p x : Body) → replaces_body before p x ≡ true → is_retirement e x ≡ true → is_retirement e p ≡ true
retirement_rises e before (Retire p) (Retire x) h k = is_same_chain e x p k (is_same_back p x (and_parts _ _ h).0)
retirement_rises e before p (Retire x) h k = absurd (true≢false (sym h))
retirement_rises e before p (Enter text) h k = absurd (true≢false (sym k))
retirement_rises e before p (Supersede old newer) h k = absurd (true≢false (sym k))

pub retires-kept : (s : Ops) (e : Id) → retires (kept s) e ≡ retires s e
retires-kept s e = any-kept (λ o. is_retirement e o.body) (λ p x. retirement_rises e _ p.body x.body) s

abbrev touches : Id → (Id → Bool) → Body → Bool
touches e by b = is_retirement e b || is_supersession e by b

touch_rises : (e : Id) (by : Id → Bool) (before : Bool) (p x : Body) → replaces_body before p x ≡ true → touches e by x ≡ true → touches e by p ≡ true
touch_rises e by before p (Enter text) h k = absurd (true≢false (sym k))
touch_rises e by before p (Retire x) h k =
    elim (or_cases (is_same e x) false k) [
      | inl r ↦ or_left (is_retirement e p) _ (retirement_rises e before p (Retire x) h r)
      | inr r ↦ absurd (true≢false (sym r))
    ]
touch_rises e by before (Enter text) (Supersede old newer) h k = absurd (true≢false (sym h))
touch_rises e by before (Retire p) (Supersede old newer) h k =
    or_left (is_same e p) _ (is_same_chain e old p (and_parts _ _ k).0 (is_same_back p old h))
touch_rises e by before (Supersede p q) (Supersede old newer) h k =
    let a = and_parts _ _ h in
    let b = and_parts _ _ k in
    let q_is : newer ≡ q = sym (is_same_exact q newer (and_parts _ _ a.1).0) in
    and_from _ _ (is_same_chain e old p b.0 (is_same_back p old a.0)) (subst (λ n. by n ≡ true) q_is b.1)

touches-kept : (s : Ops) (e : Id) (by : Id → Bool) → (retires (kept s) e || any (λ o. is_supersession e by o.body) (kept s)) ≡ (retires s e || any (λ o. is_supersession e by o.body) s)
touches-kept s e by =
    let split = λ (t : Ops). list_any-or (λ (o : Op). is_retirement e o.body) (λ o. is_supersession e by o.body) (set.items t) in
    sym (split (kept s)) ∙ any-kept (λ o. touches e by o.body) (λ p x. touch_rises e by _ p.body x.body) s ∙ split s

same_second : (r r' t t' : Bool) → r' ≡ r → (r' || t') ≡ (r || t) → (not r' && t') ≡ (not r && t)
same_second true true t t' a b = refl
same_second false false t t' a b = b
same_second r r' t t' a b = cc

status_from : (r r' t t' : Bool) → r' ≡ r → (r' || t') ≡ (r || t) → cond r' Retired (cond t' Superseded Valid) ≡ cond r Retired (cond t Superseded Valid)
status_from true true t t' a b = refl
status_from false false t t' a b = ap (λ x. cond x Superseded Valid) b
status_from r r' t t' a b = cc

pub status-kept : (s : Ops) (e : Id) → status (kept s) e ≡ status s e
status-kept s e =
    let inner = status_from (retires s e) (retires (kept s) e) (supersedes s e) (supersedes (kept s) e) (retires-kept s e) (touches-kept s e (λ n. true)) in
    (λ i. cond (enters-kept s e i) (Some (inner i)) None)

pub replaced_by-kept : (s : Ops) (e n : Id) → is_replaced_by (kept s) e n ≡ is_replaced_by s e n
replaced_by-kept s e n = same_second (retires s e) (retires (kept s) e) _ _ (retires-kept s e) (touches-kept s e (is_same n))
