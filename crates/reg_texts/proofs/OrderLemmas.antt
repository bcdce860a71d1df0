-- A sorted list without its repeats ascends, and has the same elements.
use Rattle.std.proofs.Common.{◌≡◌, ◌↔◌, ◌+◌, Bool, true, false, cond, List, [], ◌∷◌, map, get_or, suc, refl, sym, subst, inl, inr, ◌∙◌, arith}
use Rattle.std.proofs.lemmas.Bool.{true≢false}
use Rattle.std.specs.Cmp.{IsTotalOrder, Equal-is}
use Rattle.std.specs.List.{Contains, dedup_from, dedup}
use Rattle.std.specs.List.Sorted.{IsSorted}
use Rattle.std.specs.Ordering.{is_lt}
use Rattle.std.specs.declared.cmp.Ordering.{Ordering}
use Rattle.std.specs.declared.cmp.Ordering.TheVariants.{Less}
use Rattle.reg_op.specs.Set.{IsAntisymmetric, Ascends}
use Rattle.reg_op.proofs.SetLemmas.{less}
use Rattle.reg_op.proofs.ClashLemmas.{tied_of}
use Rattle.reg_report.proofs.ConflictLemmas.{in_cons, in_head, in_tail}

-- elements are compared by their keys f x, and E tests whether two have equal keys
module _ {X K : Type 0} {R : K → K → Ordering} (o : IsTotalOrder R) (same : IsAntisymmetric R) (f : X → K) (E : X → X → Bool) (exact : (x y : X) → (E x y ≡ true) ↔ (f x ≡ f y)) where
  abbrev Rises : X → List X → Type 0
  Rises k [] = Unit {0}
  Rises k (x ∷ xs) = (is_lt (R (f x) (f k)) ≡ false) × Rises x xs

  rises_from : (k : X) (xs : List X) → IsSorted (λ x y. R (f x) (f y)) (k ∷ xs) → Rises k xs
  rises_from k [] h = tt
  rises_from k (x ∷ xs) h = (
    h 0 k (omega arith) (omega arith),
    rises_from x xs (λ i d a b.
        let e : suc i + 1 ≡ suc (i + 1) = omega arith in
        subst (λ m. is_lt (R (f (get_or (k ∷ x ∷ xs) m d)) (f (get_or (x ∷ xs) i d))) ≡ false) e (h (suc i) d (omega arith) (omega arith))),
  )

  rises_as : (k l : X) (xs : List X) → f k ≡ f l → Rises k xs → Rises l xs
  rises_as k l [] e h = tt
  rises_as k l (x ∷ xs) e h = (subst (λ z. is_lt (R (f x) z) ≡ false) e h.0, h.1)

  ascends_after : (k x : X) (xs : List X) → R (f k) (f x) ≡ Less → Ascends R (map f (dedup_from E x xs)) → Ascends R (f k ∷ map f (dedup_from E x xs))
  ascends_after k x [] h a = (h, tt)
  ascends_after k x (y ∷ ys) h a =
      elim (E y x) as (λ b. Ascends R (map f (cond b (dedup_from E x ys) (x ∷ dedup_from E y ys))) → Ascends R (f k ∷ map f (cond b (dedup_from E x ys) (x ∷ dedup_from E y ys)))) [
        | true ↦ λ a. ascends_after k x ys h a
        | false ↦ λ a. (h, a)
      ] a

  below : (k x : X) → is_lt (R (f x) (f k)) ≡ false → E x k ≡ false → R (f k) (f x) ≡ Less
  below k x h e =
      elim (is_lt (R (f k) (f x))) as (λ b. is_lt (R (f k) (f x)) ≡ b → R (f k) (f x) ≡ Less) [
        | true ↦ λ l. less (R (f k) (f x)) l
        | false ↦ λ l. absurd (true≢false (sym ((exact x k).1 (same (f x) (f k) ((Equal-is (R (f x) (f k))).0 (tied_of o (f x) (f k) h l)))) ∙ e))
      ] refl

  ascends_from : (k : X) (xs : List X) → Rises k xs → Ascends R (map f (dedup_from E k xs))
  ascends_from k [] h = tt
  ascends_from k (x ∷ xs) h =
      elim (E x k) as (λ b. E x k ≡ b → Ascends R (map f (cond b (dedup_from E k xs) (k ∷ dedup_from E x xs)))) [
        | true ↦ λ e. ascends_from k xs (rises_as x k xs ((exact x k).0 e) h.1)
        | false ↦ λ e. ascends_after k x xs (below k x h.0 e) (ascends_from x xs h.1)
      ] refl

  pub dedup_ascends : (xs : List X) → IsSorted (λ x y. R (f x) (f y)) xs → Ascends R (map f (dedup E xs))
  dedup_ascends [] h = tt
  dedup_ascends (x ∷ xs) h = ascends_from x xs (rises_from x xs h)

  -- ---- the same elements

  fewer_from : (k : X) (xs : List X) (z : K) → Contains (map f (dedup_from E k xs)) z → Contains (f k ∷ map f xs) z
  fewer_from k [] z h = h
  fewer_from k (x ∷ xs) z h =
      elim (E x k) as (λ b. Contains (map f (cond b (dedup_from E k xs) (k ∷ dedup_from E x xs))) z → Contains (f k ∷ f x ∷ map f xs) z) [
        | true ↦ λ h. elim (in_cons z (f k) (map f xs) (fewer_from k xs z h)) [
          | inl e ↦ subst (Contains (f k ∷ f x ∷ map f xs)) (sym e) (in_head (f k) (f x ∷ map f xs))
          | inr later ↦ in_tail z (f k) (f x ∷ map f xs) (in_tail z (f x) (map f xs) later)
        ]
        | false ↦ λ h. elim (in_cons z (f k) (map f (dedup_from E x xs)) h) [
          | inl e ↦ subst (Contains (f k ∷ f x ∷ map f xs)) (sym e) (in_head (f k) (f x ∷ map f xs))
          | inr later ↦ in_tail z (f k) (f x ∷ map f xs) (fewer_from x xs z later)
        ]
      ] h

  all_from : (k : X) (xs : List X) (z : K) → Contains (f k ∷ map f xs) z → Contains (map f (dedup_from E k xs)) z
  all_from k [] z h = h
  all_from k (x ∷ xs) z h =
      elim (E x k) as (λ b. E x k ≡ b → Contains (map f (cond b (dedup_from E k xs) (k ∷ dedup_from E x xs))) z) [
        | true ↦ λ e. all_from k xs z (elim (in_cons z (f k) (f x ∷ map f xs) h) [
          | inl is ↦ subst (Contains (f k ∷ map f xs)) (sym is) (in_head (f k) (map f xs))
          | inr later ↦ subst (λ y. Contains (y ∷ map f xs) z) ((exact x k).0 e) later
        ])
        | false ↦ λ e. elim (in_cons z (f k) (f x ∷ map f xs) h) [
          | inl is ↦ subst (Contains (f k ∷ map f (dedup_from E x xs))) (sym is) (in_head (f k) (map f (dedup_from E x xs)))
          | inr later ↦ in_tail z (f k) (map f (dedup_from E x xs)) (all_from x xs z later)
        ]
      ] refl

  pub same_items : (xs : List X) (z : K) → Contains (map f (dedup E xs)) z ↔ Contains (map f xs) z
  same_items [] z = (λ h. h, λ h. h)
  same_items (x ∷ xs) z = (fewer_from x xs z, all_from x xs z)
