-- The element at a partition point tells whether some element of an ascending list passes.
use Rattle.std.proofs.Common.{◌≡◌, ℕ, ◌<◌, ◌≤◌, Bool, true, false, List, [], ◌∷◌, length, get_or, slice_get, refl, sym, ap, ◌∙◌, inl, inr, ◌⊎◌, arith, suc}
use Rattle.std.proofs.lemmas.Bool.{true≢false, or_cases, false_from_ne_true}
use Rattle.std.proofs.lemmas.List.Folds.{list_any_at}
use Rattle.std.proofs.lemmas.Option.{slice_get_cases}
use Rattle.std.specs.List.{list_any}
use Rattle.std.specs.List.Sorted.{IsPartitionedBy, IsPartitionPoint}
use Rattle.std.specs.Cmp.{both_ways}
use Rattle.reg_op.specs.Lists.{passes}

-- if some element passes, the element at some index does
pub index_of_any : {X : Type 0} (t : X → Bool) (xs : List X) → list_any t xs ≡ true → (x : X) × (i : ℕ) × (i < length xs) × (t x ≡ true) × ((d : X) → get_or xs i d ≡ x)
index_of_any t [] h = absurd (true≢false (sym h))
index_of_any t (x ∷ xs) h =
    elim (or_cases (t x) _ h) [
      | inl e ↦ (x, 0, omega arith, e, λ d. refl)
      | inr e ↦ let r = index_of_any t xs e in (r.0, suc r.1, omega (arith, r.2), r.3, r.4)
    ]

pub lt_or_ge : (a b : ℕ) → (a < b) ⊎ (b ≤ a)
lt_or_ge a b = grind arith

module _ {X : Type 0} (below t : X → Bool) (Le : X → X → Type 0) (xs : List X)
    (far : (i j : ℕ) (d : X) → i ≤ j → j < length xs → Le (get_or xs i d) (get_or xs j d)) where
  pub parted : ((x y : X) → Le x y → below y ≡ true → below x ≡ true) → IsPartitionedBy below xs
  parted low i j d h k b = low _ _ (far i j d h k) b

  pub told : ((x : X) → t x ≡ true → below x ≡ false) → ((x y : X) → Le x y → below x ≡ false → t y ≡ true → t x ≡ true)
      → (p : ℕ) → IsPartitionPoint (λ y. below y ≡ true) (λ y. below y ≡ false) xs p → list_any t xs ≡ passes t (slice_get xs p)
  told from down p point =
      elim (slice_get_cases xs p).1 as (λ _. list_any t xs ≡ passes t (slice_get xs p)) [
        | inl w ↦
            both_ways _ _
            (λ h.
            let r = index_of_any t xs h in
            let d = w.0 in
            let there : t (get_or xs r.1 d) ≡ true = ap t (r.4 d) ∙ r.3 in
            let here : t (get_or xs p d) ≡ true =
            elim (lt_or_ge r.1 p) [
              | inl before ↦ absurd (true≢false (sym (point.0 r.1 d (omega arith) before) ∙ from _ there))
              | inr after ↦ down _ _ (far p r.1 d after r.2) (point.1 p d (omega arith) w.1) there
            ] in
            sym (ap t w.3) ∙ here)
            (λ h. list_any_at t xs p w.0 w.1 (ap t w.3 ∙ h))
            ∙ sym (ap (passes t) w.2)
        | inr w ↦
            false_from_ne_true _ (λ h.
            let r = index_of_any t xs h in
            true≢false (sym (point.0 r.1 r.0 (omega arith) (omega (arith, r.2, w.0))) ∙ from _ (ap t (r.4 r.0) ∙ r.3)))
            ∙ sym (ap (passes t) w.1)
      ]
