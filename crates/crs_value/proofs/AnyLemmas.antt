-- Whether the predicate holds of some element of a list, from the first element on.
use Rattle.std.proofs.Common.{◌≡◌, ◌↔◌, false, List, [], ◌∷◌, length, zero, suc, IsTrue, refl, sym, subst, inl, inr, ◌⊎◌, arith}
use Rattle.std.proofs.lemmas.Bool.{true≢false}
use Rattle.std.specs.List.{Any}

module _ {X : Type 0} (P : X → Type 0) where
  none : (xs : List X) → length xs ≡ 0 → Any P xs → ⊥
  none [] e (k, x, h, is, p) = omega (arith, h)
  none (y ∷ xs) e a = omega arith

  here : (x : X) (xs : List X) → P x → Any P (x ∷ xs)
  here x xs p = (0, x, omega arith, refl, p)

  later : (x : X) (xs : List X) → Any P xs → Any P (x ∷ xs)
  later x xs (k, y, h, is, p) = (suc k, y, omega (arith, h), is, p)

  split : (x : X) (xs : List X) → Any P (x ∷ xs) → P x ⊎ Any P xs
  split x xs (zero, y, h, is, p) = inl (subst P (sym is) p)
  split x xs (suc k, y, h, is, p) = inr (k, y, omega (arith, h), is, p)

  pub first_is : (x : X) (rest others : List X) → rest ≡ x ∷ others → P x → Any P rest
  first_is x rest others e p = subst (Any P) (sym e) (here x others p)

  pub passed : (x : X) (rest others : List X) → rest ≡ x ∷ others → ¬ (P x) → Any P rest ↔ Any P others
  passed x rest others e not = (
    λ a. elim (split x others (subst (Any P) e a)) [ inl p ↦ absurd (not p) | inr b ↦ b ],
    λ a. subst (Any P) (sym e) (later x others a),
  )

  pub none_is : (rest : List X) → length rest ≡ 0 → IsTrue false ↔ Any P rest
  none_is rest e = (λ h. absurd (true≢false (sym h)), λ a. absurd (none rest e a))
