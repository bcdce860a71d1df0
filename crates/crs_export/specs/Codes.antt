-- Codes as SQLite compares them.
use Rattle.std.specs.Prelude.{ℕ, ◌==◌, Bool, ◌||◌, ◌&&◌, nat_lt, List, [], ◌∷◌, reverse, Option, Some, None, if◌then◌else◌}
use Rattle.crs_number.specs.declared.decimals.Decimal.{Decimal}
use Rattle.crs_number.specs.Numeral.{Spells}

abbrev pub is_blank : ℕ → Bool
is_blank b = (b == 32) || (nat_lt 8 b && nat_lt b 14)

abbrev pub after_blanks : List ℕ → List ℕ
after_blanks [] = []
after_blanks (b ∷ bs) = if is_blank b then after_blanks bs else b ∷ bs

-- without blanks at its ends
abbrev pub trimmed : List ℕ → List ℕ
trimmed code = reverse (after_blanks (reverse (after_blanks code)))

-- the number that the code spells without these, if it spells one
abbrev pub IsNumberOf : List ℕ → Option Decimal → Type 0
IsNumberOf code (Some d) = Spells (trimmed code) d.coefficient d.exponent
IsNumberOf code None = (d : Decimal) → ¬ (Spells (trimmed code) d.coefficient d.exponent)
