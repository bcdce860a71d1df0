-- The bytes of a numeral.
use Rattle.std.specs.Prelude.{◌≡◌, ℕ, Bool, true, ◌||◌, ◌==◌, List, [], ◌∷◌}
use Rattle.std.specs.Char.{is_ascii_digit}
use Rattle.std.specs.List.{AllPass}

-- a digit, `+`, `-` or `.`
abbrev pub begins_numeral : ℕ → Bool
begins_numeral b = is_ascii_digit b || b == 43 || b == 45 || b == 46

-- one of these, `E` or `e`
abbrev pub is_numeral_byte : ℕ → Bool
is_numeral_byte b = begins_numeral b || b == 69 || b == 101

-- at least one byte, of those that may begin a numeral, and others that may be in one
abbrev pub HasNumeralBytes : List ℕ → Type 0
HasNumeralBytes [] = ⊥
HasNumeralBytes (b ∷ bs) = (begins_numeral b ≡ true) × AllPass is_numeral_byte (b ∷ bs)
