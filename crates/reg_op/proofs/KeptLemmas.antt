-- Which operations are kept: each Enter, and the least retirement of an entry.
-- Of a pair whose old entry is not retired, the least supersession is kept.
use Rattle.std.proofs.Common.{◌≡◌, ℕ, Bool, true, List, sym, ap, ◌∙◌, subst, ◌↔◌}
use Rattle.std.proofs.lemmas.Bool.{true≢false, and_from, and_parts, false_from_ne_true}
use Rattle.std.specs.Cmp.{tied_itself}
use Rattle.std.specs.Ordering.{is_eq}
use Rattle.reg_op.specs.Set.{contains}
use Rattle.reg_op.specs.Ids.{Id, is_before, is_same}
use Rattle.reg_op.specs.Operations.{Body, Enter, Supersede, Retire, Ops, replaces_body, kept}
use Rattle.reg_op.specs.Status.{is_retirement}
use Rattle.reg_op.specs.Kept.{entering, superseding, retiring, IsLeastRetirement, IsLeastSupersession}
use Rattle.reg_op.proofs.FiniteLemmas.{any_from_member, member_from_any}
use Rattle.reg_op.proofs.OpLemmas.{id_total, op_total, op_exact, is_same_exact, is_same_back}
use Rattle.reg_op.proofs.ContentLemmas.{kept_is_within}
use Rattle.reg_op.proofs.OneLemmas.{kept_free, kept_has}
use Rattle.std.specs.Cmp.{both_ways}

same_itself : (i : Id) → is_same i i ≡ true
same_itself i = ap is_eq (tied_itself id_total i)

of_op : (s : Ops) (j : Id) (b c : Body) (n : List ℕ) → b ≡ c → contains s (record { id = j; body = b; note = n }) ≡ true → contains s (record { id = j; body = c; note = n }) ≡ true
of_op s j b c n e h = subst (λ x. contains s (record { id = j; body = x; note = n }) ≡ true) e h

pub kept_enter : (s : Ops) (i : Id) (text note : List ℕ) → contains (kept s) (entering i text note) ≡ contains s (entering i text note)
kept_enter s i text note = both_ways _ _ (kept_is_within s (entering i text note)) (λ h. kept_has s (entering i text note) h (λ p n r. nothing_over p.body (is_before p.id i) r))
  where
    nothing_over : (b : Body) (before : Bool) → replaces_body before b (Enter text) ≡ true → ⊥
    nothing_over (Enter t) before h = true≢false (sym h)
    nothing_over (Supersede o n) before h = true≢false (sym h)
    nothing_over (Retire e) before h = true≢false (sym h)

pub kept_retirement : (s : Ops) (i e : Id) (note : List ℕ) → (contains (kept s) (retiring i e note) ≡ true) ↔ IsLeastRetirement s i e note
kept_retirement s i e note = (
  λ h. record {
    there = kept_is_within s (retiring i e note) h;
    least = λ j other k. false_from_ne_true _ (λ b. kept_free s (retiring i e note) (retiring j e other) h k (and_from _ _ (same_itself e) b));
  },
  λ l. kept_has s (retiring i e note) l.there (λ p n r. refuted l p.id p.body p.note n r),
)
  where
    refuted : IsLeastRetirement s i e note → (j : Id) (b : Body) (m : List ℕ) → contains s (record { id = j; body = b; note = m }) ≡ true → replaces_body (is_before j i) b (Retire e) ≡ true → ⊥
    refuted l j (Enter t) m n r = true≢false (sym r)
    refuted l j (Supersede o w) m n r = true≢false (sym r)
    refuted l j (Retire f) m n r =
        let p = and_parts _ _ r in
        true≢false (sym p.1 ∙ l.least j m (of_op s j (Retire f) (Retire e) m (ap Retire (is_same_exact f e p.0)) n))

pub kept_supersession : (s : Ops) (i old newer : Id) (note : List ℕ) → (contains (kept s) (superseding i old newer note) ≡ true) ↔ IsLeastSupersession s i old newer note
kept_supersession s i old newer note = (
  λ h. record {
    there = kept_is_within s (superseding i old newer note) h;
    least = λ j other k. false_from_ne_true _ (λ b. kept_free s (superseding i old newer note) (superseding j old newer other) h k (and_from _ _ (same_itself old) (and_from _ _ (same_itself newer) b)));
    stands = false_from_ne_true _ (λ r.
        let m = member_from_any op_total op_exact (λ o. is_retirement old o.body) s r in
        kept_free s (superseding i old newer note) m.0 h m.1 (over m.0.body (is_before m.0.id i) m.2));
  },
  λ l. kept_has s (superseding i old newer note) l.there (λ p n r. refuted l p.id p.body p.note n r),
)
  where
    over : (b : Body) (before : Bool) → is_retirement old b ≡ true → replaces_body before b (Supersede old newer) ≡ true
    over (Enter t) before h = absurd (true≢false (sym h))
    over (Supersede o n) before h = absurd (true≢false (sym h))
    over (Retire e) before h = is_same_back old e h

    refuted : IsLeastSupersession s i old newer note → (j : Id) (b : Body) (m : List ℕ) → contains s (record { id = j; body = b; note = m }) ≡ true → replaces_body (is_before j i) b (Supersede old newer) ≡ true → ⊥
    refuted l j (Enter t) m n r = true≢false (sym r)
    refuted l j (Retire f) m n r = true≢false (sym (any_from_member op_total op_exact (λ o. is_retirement old o.body) s (record { id = j; body = Retire f; note = m }) n (is_same_back f old r)) ∙ l.stands)
    refuted l j (Supersede o w) m n r =
        let p = and_parts _ _ r in
        let q = and_parts _ _ p.1 in
        true≢false (sym q.1 ∙ l.least j m (of_op s j (Supersede o w) (Supersede old newer) m (λ k. Supersede (is_same_exact o old p.0 k) (is_same_exact w newer q.0 k)) n))
