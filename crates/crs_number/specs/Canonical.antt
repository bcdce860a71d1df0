-- The canonical text of c times ten to the e.
use Rattle.std.specs.Prelude.{◌≡◌, ℕ, zero, suc, ◌+◌, ◌/◌, ◌%◌, ◌^◌, List, [], ◌∷◌, ◌++◌, replicate, decimal, ℤ, pos, negsuc, unsigned_abs}

-- the last k digits of n, with leading zeros if it has fewer
abbrev pub last_digits : ℕ → ℕ → List ℕ
last_digits zero n = []
last_digits (suc k) n = last_digits k (n / 10) ++ ((48 + n % 10) ∷ [])

-- the minus of a number below zero
abbrev pub minus_of : ℤ → List ℕ
minus_of (pos n) = []
minus_of (negsuc n) = 45 ∷ []

-- a size times ten to the e: its digits and e zeros, or its digits with a period before the last of them
unfoldable pub plain_text : ℕ → ℤ → List ℕ
plain_text size (pos k) = decimal size ++ replicate k 48
plain_text size (negsuc k) = decimal (size / 10 ^ suc k) ++ (46 ∷ last_digits (suc k) size)

-- a minus if there is one, and the text of the absolute value
abbrev pub canonical : ℤ → ℤ → List ℕ
canonical c e = minus_of c ++ plain_text (unsigned_abs c) e

-- the new bytes are the old ones, or these and more
abbrev pub Extends : List ℕ → List ℕ → Type 0
Extends old new = (more : List ℕ) × (new ≡ old ++ more)
