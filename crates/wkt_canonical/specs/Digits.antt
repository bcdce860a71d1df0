-- The digits of canonical numbers.
use Rattle.std.specs.Prelude.{◌≡◌, ◌≢◌, ℕ, ◌<◌, List, ◌++◌, ◌∷◌, [], length}
use Rattle.std.specs.Str.Parse.{AllDigits}

-- digits, the last of them not 0, and the rest after them
pub record ReadsFraction (text rest : List ℕ) : Type 0 where
  pub front : List ℕ
  pub last : ℕ
  pub is_digits : AllDigits 10 (front ++ (last ∷ []))
  pub ends : last ≢ 48
  pub short : length front < 18
  pub is : text ≡ (front ++ (last ∷ [])) ++ rest
