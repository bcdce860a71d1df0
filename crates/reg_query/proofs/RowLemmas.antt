-- Equality of rows is decidable.
use Rattle.std.proofs.Common.{◌≡◌, ℕ, Bool, true, List, [], ◌∷◌, ◌⊎◌, Option, None, Some, zero, suc, IsTrue, ◌↔◌, refl, sym, ap, ◌∙◌, subst, inl, inr}
use Rattle.std.proofs.lemmas.Bool.{true≢false}
use Rattle.std.proofs.lemmas.Cmp.{nat_list_cmp_total, lists_total}
use Rattle.std.specs.List.{Contains}
use Rattle.std.specs.Cmp.{IsTotalOrder, Equal-is, tied_itself, then_total, on_total, nat_cmp_total}
use Rattle.std.specs.Cmp.Lexicographic.{slice_cmp}
use Rattle.std.specs.Ordering.{nat_cmp, is_eq, ordering_then}
use Rattle.std.specs.declared.cmp.Ordering.{Ordering}
use Rattle.std.specs.declared.cmp.Ordering.TheVariants.{Less, Equal, Greater}
use Rattle.reg_op.specs.Set.{nat_cmp-IsAntisymmetric, slice_cmp-IsAntisymmetric}
use Rattle.reg_op.specs.Ids.{Id, id_cmp, is_same}
use Rattle.reg_op.specs.declared.status.Status.{Status}
use Rattle.reg_op.specs.declared.status.Status.TheVariants.{Valid, Superseded, Retired}
use Rattle.reg_op.specs.Rows.{Row}
use Rattle.reg_op.proofs.OpLemmas.{id_total, id_exact, bytes_exact, is_same_exact, both_equal}
use Rattle.reg_report.proofs.ConflictLemmas.{none_in, in_cons, in_head, in_tail}

number : Option Status → ℕ
number None = 0
number (Some Valid) = 1
number (Some Superseded) = 2
number (Some Retired) = 3

numbered : ℕ → Option Status
numbered zero = None
numbered (suc zero) = Some Valid
numbered (suc (suc zero)) = Some Superseded
numbered (suc (suc (suc n))) = Some Retired

status_again : (s : Option Status) → numbered (number s) ≡ s
unfolding number numbered
status_again None = refl
status_again (Some Valid) = refl
status_again (Some Superseded) = refl
status_again (Some Retired) = refl

abbrev whole_cmp : Row → Row → Ordering
whole_cmp a b =
    ordering_then (id_cmp a.entry b.entry)
    (ordering_then (slice_cmp nat_cmp a.definition b.definition)
    (ordering_then (nat_cmp (number a.status) (number b.status)) (slice_cmp id_cmp a.newer b.newer)))

whole_total : IsTotalOrder whole_cmp
whole_total =
    then_total (on_total (λ (r : Row). r.entry) id_total)
    (then_total (on_total (λ (r : Row). r.definition) nat_list_cmp_total)
    (then_total (on_total (λ (r : Row). number r.status) nat_cmp_total) (on_total (λ (r : Row). r.newer) (lists_total id_total))))

whole_exact : (a b : Row) → whole_cmp a b ≡ Equal → a ≡ b
whole_exact a b e =
    let i = both_equal (id_cmp a.entry b.entry) _ e in
    let d = both_equal (slice_cmp nat_cmp a.definition b.definition) _ i.1 in
    let s = both_equal (nat_cmp (number a.status) (number b.status)) _ d.1 in
    let entry : a.entry ≡ b.entry = id_exact _ _ i.0 in
    let definition : a.definition ≡ b.definition = bytes_exact _ _ d.0 in
    let status : a.status ≡ b.status = sym (status_again a.status) ∙ ap numbered (nat_cmp-IsAntisymmetric _ _ s.0) ∙ status_again b.status in
    let newer : a.newer ≡ b.newer = slice_cmp-IsAntisymmetric id_exact _ _ s.1 in
    λ j. record { entry = entry j; definition = definition j; status = status j; newer = newer j }

pub same_or_not : (a b : Row) → (a ≡ b) ⊎ (a ≡ b → ⊥)
same_or_not a b =
    elim (whole_cmp a b) as (λ r. whole_cmp a b ≡ r → (a ≡ b) ⊎ (a ≡ b → ⊥)) [
      | Less ↦ λ e. inr (other Less e (λ h. true≢false (sym h)))
      | Equal ↦ λ e. inl (whole_exact a b e)
      | Greater ↦ λ e. inr (other Greater e (λ h. true≢false (sym h)))
    ] refl
  where
    other : (r : Ordering) → whole_cmp a b ≡ r → (is_eq r ≡ true → ⊥) → a ≡ b → ⊥
    other r e never same = never (sym (ap is_eq (subst (λ k. whole_cmp a k ≡ r) (sym same) e)) ∙ ap is_eq (tied_itself whole_total a))

pub has_or_not : (rs : List Row) (r : Row) → Contains rs r ⊎ (Contains rs r → ⊥)
has_or_not [] r = inr (none_in r)
has_or_not (q ∷ rs) r = by_first (same_or_not r q) (has_or_not rs r)
  where
    by_first : (r ≡ q) ⊎ (r ≡ q → ⊥) → Contains rs r ⊎ (Contains rs r → ⊥) → Contains (q ∷ rs) r ⊎ (Contains (q ∷ rs) r → ⊥)
    by_first (inl e) later = inl (subst (Contains (q ∷ rs)) (sym e) (in_head q rs))
    by_first (inr other) (inl k) = inl (in_tail r q rs k)
    by_first (inr other) (inr lacks) = inr (λ h. elim (in_cons r q rs h) [ inl e ↦ other e | inr d ↦ lacks d ])

-- ---- tests that ids are equal

pub same_ids : (is js : List Id) (b : Bool) → b ≡ is_eq (slice_cmp id_cmp is js) → IsTrue b ↔ (is ≡ js)
same_ids is js b e = (
  λ h. slice_cmp-IsAntisymmetric id_exact is js ((Equal-is (slice_cmp id_cmp is js)).0 (sym e ∙ h)),
  λ same. e ∙ ap is_eq (ap (slice_cmp id_cmp is) (sym same) ∙ tied_itself (lists_total id_total) is),
)

pub same_id : (i j : Id) (b : Bool) → b ≡ is_same i j → IsTrue b ↔ (i ≡ j)
same_id i j b e = (
  λ h. is_same_exact i j (sym e ∙ h),
  λ same. e ∙ subst (λ k. is_same i k ≡ true) same (ap is_eq (tied_itself id_total i)),
)
