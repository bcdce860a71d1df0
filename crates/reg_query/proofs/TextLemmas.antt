-- One more part that a search for a text meets.
use Rattle.std.proofs.Common.{◌≡◌, ◌↔◌, ◌⊎◌, Bool, false, List, [], ◌∷◌, zero, suc, IsTrue, refl, sym, ◌∙◌, subst, inl, inr, arith}
use Rattle.std.proofs.lemmas.Bool.{true≢false}
use Rattle.std.specs.List.{Any}

module _ {X : Type 0} (P : X → Type 0) where
  split : (x : X) (xs : List X) → Any P (x ∷ xs) → P x ⊎ Any P xs
  split x xs (zero, y, h, is, p) = inl (subst P (sym is) p)
  split x xs (suc k, y, h, is, p) = inr (k, y, omega (arith, h), is, p)

  here : (x : X) (xs : List X) → P x → Any P (x ∷ xs)
  here x xs p = (0, x, omega arith, refl, p)

  later : (x : X) (xs : List X) → Any P xs → Any P (x ∷ xs)
  later x xs (k, y, h, is, p) = (suc k, y, omega (arith, h), is, p)

  none : Any P [] → ⊥
  none (k, x, h, is, p) = omega (arith, h)

  -- it was found before: the next part changes nothing
  pub found_before : (found : Bool) (x : X) (xs : List X) → IsTrue found → (IsTrue found ⊎ Any P xs) ↔ (IsTrue found ⊎ Any P (x ∷ xs))
  found_before found x xs on = (λ h. inl on, λ h. inl on)

  -- it was not: the next part may have it
  pub found_now : (old new : Bool) (x : X) (xs : List X) → old ≡ false → (IsTrue new ↔ P x) → (IsTrue new ⊎ Any P xs) ↔ (IsTrue old ⊎ Any P (x ∷ xs))
  found_now old new x xs off is = (
    λ h. inr (elim h [ inl a ↦ here x xs (is.0 a) | inr b ↦ later x xs b ]),
    λ h. elim h [ inl a ↦ absurd (true≢false (sym a ∙ off)) | inr b ↦ elim (split x xs b) [ inl p ↦ inl (is.1 p) | inr r ↦ inr r ] ],
  )

  -- at the end it was found in one of all, if it was not found before all
  pub found_of : (first last : Bool) (all : List X) → first ≡ false → ((IsTrue last ⊎ Any P []) ↔ (IsTrue first ⊎ Any P all)) → IsTrue last ↔ Any P all
  found_of first last all off is = (
    λ h. elim (is.0 (inl h)) [ inl a ↦ absurd (true≢false (sym a ∙ off)) | inr b ↦ b ],
    λ a. elim (is.1 (inr a)) [ inl h ↦ h | inr n ↦ absurd (none n) ],
  )
