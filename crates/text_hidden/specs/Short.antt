-- The first characters of a text in UTF-8.
use Rattle.std.specs.Prelude.{ℕ, ◌-◌, ◌||◌, nat_lt, List, [], ◌∷◌, ◌++◌, length, if◌then◌else◌}

-- 1 for a byte at which a character begins; the bytes 128 to 191 continue one
abbrev pub starts : ℕ → ℕ
starts b = if nat_lt b 128 || nat_lt 191 b then 1 else 0

-- the first characters of a text, at most so many
abbrev pub first_characters : ℕ → List ℕ → List ℕ
first_characters n [] = []
first_characters n (b ∷ bs) = if nat_lt n (starts b) then [] else b ∷ first_characters (n - starts b) bs

-- the first 200 characters
abbrev pub shortened : List ℕ → List ℕ
shortened text = first_characters 200 text

-- `…`, if a text has more than its first 200 characters
abbrev pub ellipsis_of : List ℕ → List ℕ
ellipsis_of text = if nat_lt (length (shortened text)) (length text) then 226 ∷ 128 ∷ 166 ∷ [] else []

-- the first 200 characters, and `…` if the text has more
abbrev pub short : List ℕ → List ℕ
short text = shortened text ++ ellipsis_of text
