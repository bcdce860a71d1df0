-- Words that spell nothing.
use Rattle.std.proofs.Common.{◌≡◌, ◌↔◌, ℕ, List, Option, Some, None, true, false, refl}

-- what has no value is nothing
pub unparsed : (p : Option (List ℕ)) → (false ≡ true) ↔ ((u : List ℕ) × (p ≡ Some u)) → None ≡ p
unparsed None e = refl
unparsed (Some u) e = let bad : false ≡ true = e.1 (u, refl) in absurd cc
