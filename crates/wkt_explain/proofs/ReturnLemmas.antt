-- The carriage return at the end of a line.
use Rattle.std.proofs.Common.{◌≡◌, ℕ, true, false, cond, List, [], ◌∷◌, ◌++◌, length, refl, ap, arith}
use Rattle.wkt_explain.specs.Position.{is_return, without_return}

pub return_cut : (xs : List ℕ) (b : ℕ) → is_return b ≡ true → without_return (xs ++ b ∷ []) ≡ xs
unfolding without_return
return_cut [] b h = ap (λ r. cond r [] (b ∷ [])) h
return_cut (x ∷ []) b h = ap (λ (l : List ℕ). x ∷ l) (return_cut [] b h)
return_cut (x ∷ y ∷ xs) b h = ap (λ (l : List ℕ). x ∷ l) (return_cut (y ∷ xs) b h)

pub no_return : (xs : List ℕ) (b : ℕ) → is_return b ≡ false → without_return (xs ++ b ∷ []) ≡ xs ++ b ∷ []
unfolding without_return
no_return [] b h = ap (λ r. cond r [] (b ∷ [])) h
no_return (x ∷ []) b h = ap (λ (l : List ℕ). x ∷ l) (no_return [] b h)
no_return (x ∷ y ∷ xs) b h = ap (λ (l : List ℕ). x ∷ l) (no_return (y ∷ xs) b h)

pub no_line : (xs : List ℕ) → length xs ≡ 0 → xs ≡ without_return xs
unfolding without_return
no_line [] h = refl
no_line (x ∷ xs) h = absurd (omega (arith, h))
