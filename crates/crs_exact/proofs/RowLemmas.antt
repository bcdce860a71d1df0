-- The pieces of a text.
use Rattle.std.proofs.Common.{◌≡◌, ℕ, suc, ◌+◌, ◌-◌, Bool, true, false, cond, List, [], ◌∷◌, ◌++◌, length, length-drop, take, drop, refl, ap, sym, ◌∙◌, arith, one-add}
use Rattle.std.specs.List.{prefix_len}
use Rattle.crs_exact.specs.Tables.{goes_on, before_first, pieces, EndsPiece}

pub tails : {X : Type 0} (x y : X) (xs ys : List X) → x ∷ xs ≡ y ∷ ys → xs ≡ ys
tails x y xs ys e = ap (drop 1) e

pub one_piece : (m : ℕ) (text : List ℕ) → drop (prefix_len (goes_on m) text) text ≡ [] → pieces m text ≡ text ∷ []
one_piece m [] e = refl
one_piece m (x ∷ xs) e = elim (goes_on m x) as (λ b. drop (cond b (1 + prefix_len (goes_on m) xs) 0) (x ∷ xs) ≡ [] → cond b (before_first x (pieces m xs)) ([] ∷ pieces m xs) ≡ (x ∷ xs) ∷ []) [
  | true ↦ λ h. ap (before_first x) (one_piece m xs (ap (λ n. drop n (x ∷ xs)) (sym (one-add (prefix_len (goes_on m) xs))) ∙ h))
  | false ↦ λ h. absurd (omega (arith, ap length h))
] e

pub ends_piece : (m : ℕ) (text rest : List ℕ) (b : ℕ) → drop (prefix_len (goes_on m) text) text ≡ b ∷ rest → pieces m text ≡ take (prefix_len (goes_on m) text) text ∷ pieces m rest
ends_piece m [] rest b e = absurd (omega (arith, ap length e))
ends_piece m (x ∷ xs) rest b e = elim (goes_on m x) as (λ c. drop (cond c (1 + prefix_len (goes_on m) xs) 0) (x ∷ xs) ≡ b ∷ rest → cond c (before_first x (pieces m xs)) ([] ∷ pieces m xs) ≡ take (cond c (1 + prefix_len (goes_on m) xs) 0) (x ∷ xs) ∷ pieces m rest) [
  | true ↦ λ h.
      ap (before_first x) (ends_piece m xs rest b (ap (λ n. drop n (x ∷ xs)) (sym (one-add (prefix_len (goes_on m) xs))) ∙ h))
      ∙ ap (λ n. take n (x ∷ xs) ∷ pieces m rest) (sym (one-add (prefix_len (goes_on m) xs)))
  | false ↦ λ h. ap (λ l. [] ∷ pieces m l) (tails x b xs rest h)
] e

pub split : (m : ℕ) (text piece rest : List ℕ) (b : ℕ) → piece ≡ take (prefix_len (goes_on m) text) text → drop (prefix_len (goes_on m) text) text ≡ b ∷ rest → EndsPiece m text piece rest
split m text piece rest b front back = record {
  is = ends_piece m text rest b back ∙ ap (λ l. l ∷ pieces m rest) (sym front);
  less = let e : length text - prefix_len (goes_on m) text ≡ suc (length rest) = sym (length-drop (prefix_len (goes_on m) text) text) ∙ ap length back in omega (arith, e);
}
