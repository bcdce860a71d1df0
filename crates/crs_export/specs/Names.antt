-- Texts that PROJ's tables take.
use Rattle.std.specs.Prelude.{ℕ, ◌==◌, Bool, true, false, ◌||◌, nat_lt, List, [], ◌∷◌}
use Rattle.std.specs.List.{list_any}

-- the byte is the first of a character
abbrev pub starts : ℕ → Bool
starts b = nat_lt b 128 || nat_lt 191 b

-- there is a second character
abbrev pub is_long : List ℕ → Bool
is_long [] = false
is_long (b ∷ bs) = list_any starts bs

abbrev pub is_zero : ℕ → Bool
is_zero b = b == 0

abbrev pub is_some_text : List ℕ → Bool
is_some_text [] = false
is_some_text (b ∷ bs) = true
