-- Sorted lists, and sorted lists without duplicates.
use Rattle.std.proofs.Common.{◌≡◌, ◌↔◌, Bool, true, false, List, [], ◌∷◌, map, refl, sym, ap, ◌∙◌, subst}
use Rattle.std.proofs.lemmas.Bool.{true≢false}
use Rattle.std.proofs.lemmas.Cmp.{on_total, tied_itself, eq_by_cmp_equiv}
use Rattle.std.proofs.lemmas.List.Kept.{Any-dedup, Contains-from_dedup, IsStrictlySortedBy-dedup}
use Rattle.std.specs.Cmp.{IsTotalOrder, IsEquivalence, Equal-is}
use Rattle.std.specs.List.{Contains, dedup, AllByRecursion as ByRecursion}
use Rattle.std.specs.List.Sorted.{IsSorted, IsStrictlySortedBy}
use Rattle.std.specs.Ordering.{is_eq}
use Rattle.std.specs.declared.cmp.Ordering.{Ordering}
use Rattle.std.specs.declared.cmp.Ordering.TheVariants.{Less, Equal}
use Rattle.reg_report.proofs.ConflictLemmas.{in_map, from_map}

-- elements that are compared by their images under f
module _ {X K : Type 0} {R : K → K → Ordering} (o : IsTotalOrder R) (same : (a b : K) → R a b ≡ Equal → a ≡ b) (f : X → K) (E : X → X → Bool) (exact : (x y : X) → (E x y ≡ true) ↔ (f x ≡ f y)) where
  tied : (x y : X) → f x ≡ f y → is_eq (R (f x) (f y)) ≡ true
  tied x y e = subst (λ k. is_eq (R (f x) k) ≡ true) e (ap is_eq (tied_itself o (f x)))

  ties : (x y : X) → E x y ≡ is_eq (R (f x) (f y))
  ties x y =
      elim (E x y) as (λ b. E x y ≡ b → b ≡ is_eq (R (f x) (f y))) [
        | true ↦ λ e. sym (tied x y ((exact x y).0 e))
        | false ↦ λ e. elim (is_eq (R (f x) (f y))) as (λ b. is_eq (R (f x) (f y)) ≡ b → false ≡ b) [
          | true ↦ λ h. absurd (true≢false (sym ((exact x y).1 (same (f x) (f y) ((Equal-is (R (f x) (f y))).0 h))) ∙ e))
          | false ↦ λ h. refl
        ] refl
      ] refl

  equivalence : IsEquivalence E
  equivalence = subst IsEquivalence (λ j x y. sym (ties x y) j) (eq_by_cmp_equiv (on_total f o))

  each_less : (x : X) (xs : List X) → ByRecursion (λ y. R (f x) (f y) ≡ Less) xs → ByRecursion (λ k. R (f x) k ≡ Less) (map f xs)
  each_less x [] h = tt
  each_less x (y ∷ ys) h = (h.0, each_less x ys h.1)

  rises : (xs : List X) → IsStrictlySortedBy (λ x y. R (f x) (f y)) xs → IsStrictlySortedBy R (map f xs)
  unfolding IsStrictlySortedBy
  rises [] h = tt
  rises (x ∷ xs) h = (each_less x xs h.0, rises xs h.1)

  pub rises_once : (xs : List X) → IsSorted (λ x y. R (f x) (f y)) xs → IsStrictlySortedBy R (map f (dedup E xs))
  rises_once xs h = rises (dedup E xs) (IsStrictlySortedBy-dedup (on_total f o) ties xs h)

  pub kept_once : (xs : List X) (z : K) → Contains (map f (dedup E xs)) z ↔ Contains (map f xs) z
  kept_once xs z = (
    λ c. let r = from_map f (dedup E xs) z c in subst (Contains (map f xs)) (sym r.2) (in_map f xs r.0 (Contains-from_dedup E xs r.0 r.1)),
    λ c.
        let r = from_map f xs z c in
        let a = Any-dedup equivalence xs r.0 r.1 in
        subst (Contains (map f (dedup E xs))) (sym (r.2 ∙ (exact r.0 a.1).0 a.4)) (in_map f (dedup E xs) a.1 (a.0, a.2, a.3)),
  )
