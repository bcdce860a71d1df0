-- Tables as texts: a row on each line, and its fields with a semicolon between two.
use Rattle.std.specs.Prelude.{◌≡◌, ◌<◌, ℕ, ◌+◌, ◌-◌, ◌*◌, nat_lt, Bool, false, not, ◌==◌, ◌&&◌, List, [], ◌∷◌, length, take, drop, Option, Some, None, if◌then◌else◌}
use Rattle.std.specs.Int.{is_positive}
use Rattle.std.specs.List.{find, prefix_len}
use Rattle.crs_number.specs.declared.decimals.Decimal.{Decimal}
use Rattle.crs_exact.specs.Names.{is_named}
use Rattle.crs_exact.specs.Sizes.{is_below, is_beyond}

abbrev pub goes_on : ℕ → ℕ → Bool
goes_on mark b = not (b == mark)

abbrev pub before_first : ℕ → List (List ℕ) → List (List ℕ)
before_first b [] = (b ∷ []) ∷ []
before_first b (p ∷ ps) = (b ∷ p) ∷ ps

-- the pieces of a text: a mark ends one, and another begins after it
abbrev pub pieces : ℕ → List ℕ → List (List ℕ)
pieces mark [] = [] ∷ []
pieces mark (b ∷ bs) = if goes_on mark b then before_first b (pieces mark bs) else [] ∷ pieces mark bs

-- what stands before the mark, and what stands after it
abbrev pub before : ℕ → List ℕ → List ℕ
before mark text = take (prefix_len (goes_on mark) text) text

abbrev pub from_mark : ℕ → List ℕ → List ℕ
from_mark mark text = drop (prefix_len (goes_on mark) text) text

abbrev pub past : ℕ → List ℕ → List ℕ
past mark text = drop 1 (from_mark mark text)

pub record EndsPiece (mark : ℕ) (text piece rest : List ℕ) : Type 0 where
  pub is : pieces mark text ≡ piece ∷ pieces mark rest
  pub less : length rest < length text

-- ---- numbers

-- the number with more digits after it, up to some 24
abbrev pub spelled : ℕ → List ℕ → Option ℕ
spelled n [] = Some n
spelled n (d ∷ ds) = if nat_lt n 50000000000000000000000 then spelled (n * 10 + (d - 48)) ds else None

abbrev pub then_spelled : Option ℕ → List ℕ → Option ℕ
then_spelled None digits = None
then_spelled (Some n) digits = spelled n digits

-- a numeral in units of its last decimal place, of which there are as many as these zeros
abbrev pub fixed : List ℕ → List ℕ → Option ℕ
fixed zeros field = then_spelled (then_spelled (spelled 0 (before 46 field)) (past 46 field)) (drop (length (past 46 field)) zeros)

abbrev pub is_coded : Option ℕ → Decimal → Bool
is_coded None n = false
is_coded (Some c) n = is_positive n.coefficient && not (is_below n c 0) && not (is_beyond n c 0)

abbrev pub is_code : List ℕ → Decimal → Bool
is_code field n = is_coded (fixed [] field) n

-- ---- rows

-- the first row with this name in its first field, or with this number
abbrev pub row_of : List ℕ → List ℕ → Option (List ℕ)
row_of table name = find (λ row. is_named (before 59 row) name) (pieces 10 table)

abbrev pub row_coded : List ℕ → Decimal → Option (List ℕ)
row_coded table code = find (λ row. is_code (before 59 row) code) (pieces 10 table)
