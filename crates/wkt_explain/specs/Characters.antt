-- The characters of some bytes.
use Rattle.std.specs.Prelude.{ℕ, zero, suc, Bool, List, [], ◌∷◌, length, take, drop, if◌then◌else◌, nat_lt, nat_le, ◌&&◌}
use Rattle.std.specs.Str.{is_utf8}

-- there are this many bytes, and they are UTF-8
abbrev pub is_wide : ℕ → List ℕ → Bool
is_wide n bytes = nat_le n (length bytes) && is_utf8 (take n bytes)

-- how many bytes the first character has; a byte that begins no UTF-8 is one by itself
unfoldable pub first_len : List ℕ → ℕ
first_len [] = 1
first_len (b ∷ bs) =
    if nat_lt b 128 then 1
    else (if is_wide 2 (b ∷ bs) then 2
    else (if is_wide 3 (b ∷ bs) then 3
    else (if is_wide 4 (b ∷ bs) then 4
    else 1)))

-- the first characters, at most n of them
unfoldable pub first_chars : ℕ → List ℕ → List (List ℕ)
first_chars zero bytes = []
first_chars (suc n) [] = []
first_chars (suc n) (b ∷ bs) = take (first_len (b ∷ bs)) (b ∷ bs) ∷ first_chars n (drop (first_len (b ∷ bs)) (b ∷ bs))

-- all of them
unfoldable pub chars : List ℕ → List (List ℕ)
chars bytes = first_chars (length bytes) bytes
