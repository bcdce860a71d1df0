-- The length of the first character, and the characters after it.
use Rattle.std.proofs.Common.{◌≡◌, ℕ, zero, suc, ◌+◌, ◌-◌, ◌<◌, ◌≤◌, Bool, true, false, ◌&&◌, cond, List, [], ◌∷◌, length, take, drop, nat_le, nat_lt, refl, ap, sym, ◌∙◌, ◌==◌, arith, length-drop}
use Rattle.std.specs.Str.{is_utf8, IsUtf8}
use Rattle.std.proofs.lemmas.Str.{IsUtf8-from_is_utf8}
use Rattle.std.proofs.lemmas.Bool.Decides.{nat_tests}
use Rattle.wkt_explain.specs.Characters.{is_wide, first_len, first_chars, chars}

pub no_text : (bytes : List ℕ) → ((IsUtf8 bytes) → ⊥) → is_utf8 bytes ≡ false
no_text bytes never =
    elim (is_utf8 bytes) as (λ v. is_utf8 bytes ≡ v → v ≡ false) [ true ↦ λ e. absurd (never (IsUtf8-from_is_utf8 bytes e)) | false ↦ λ e. refl ] refl

fits_if : (n m : ℕ) (b : Bool) → (nat_le n m && b) ≡ true → n ≤ m
fits_if n m b h = grind (arith, nat_tests)

-- n is at least 1 and at most len
abbrev Bounded : ℕ → ℕ → Type 0
Bounded n len = (0 < n) × (n ≤ len)

picked : (a b c d : Bool) (len : ℕ) → 1 ≤ len → (b ≡ true → 2 ≤ len) → (c ≡ true → 3 ≤ len) → (d ≡ true → 4 ≤ len)
    → Bounded (cond a 1 (cond b 2 (cond c 3 (cond d 4 1)))) len
picked true b c d len one two three four = (omega arith, one)
picked false true c d len one two three four = (omega arith, two refl)
picked false false true d len one two three four = (omega arith, three refl)
picked false false false true len one two three four = (omega arith, four refl)
picked false false false false len one two three four = (omega arith, one)

pub first_len-bounds : (bytes : List ℕ) → 0 < length bytes → (0 < first_len bytes) × (first_len bytes ≤ length bytes)
unfolding first_len
first_len-bounds [] h = absurd (omega arith)
first_len-bounds (b ∷ bs) h = picked (nat_lt b 128) (is_wide 2 (b ∷ bs)) (is_wide 3 (b ∷ bs)) (is_wide 4 (b ∷ bs)) (length (b ∷ bs)) (omega arith)
    (fits_if 2 (length (b ∷ bs)) (is_utf8 (take 2 (b ∷ bs))))
    (fits_if 3 (length (b ∷ bs)) (is_utf8 (take 3 (b ∷ bs))))
    (fits_if 4 (length (b ∷ bs)) (is_utf8 (take 4 (b ∷ bs))))

shorter : (n : ℕ) (b : ℕ) (bs : List ℕ) → length (b ∷ bs) ≤ suc n → length (drop (first_len (b ∷ bs)) (b ∷ bs)) ≤ n
shorter n b bs h = let k : (0 < first_len (b ∷ bs)) × (first_len (b ∷ bs) ≤ length (b ∷ bs)) = first_len-bounds (b ∷ bs) (omega arith) in rw length-drop (omega arith)

more_is_same : (n m : ℕ) (bytes : List ℕ) → length bytes ≤ n → length bytes ≤ m → first_chars n bytes ≡ first_chars m bytes
unfolding first_chars
more_is_same zero zero bytes h k = refl
more_is_same zero (suc m) [] h k = refl
more_is_same zero (suc m) (b ∷ bs) h k = absurd (omega arith)
more_is_same (suc n) zero [] h k = refl
more_is_same (suc n) zero (b ∷ bs) h k = absurd (omega arith)
more_is_same (suc n) (suc m) [] h k = refl
more_is_same (suc n) (suc m) (b ∷ bs) h k =
    ap (λ cs. take (first_len (b ∷ bs)) (b ∷ bs) ∷ cs) (more_is_same n m (drop (first_len (b ∷ bs)) (b ∷ bs)) (shorter n b bs h) (shorter m b bs k))

pub chars-nil : chars [] ≡ []
unfolding chars first_chars
chars-nil = refl

pub chars-split : (bytes : List ℕ) → 0 < length bytes → chars bytes ≡ take (first_len bytes) bytes ∷ chars (drop (first_len bytes) bytes)
unfolding chars first_chars
chars-split [] h = absurd (omega arith)
chars-split (b ∷ bs) h =
    ap (λ cs. take (first_len (b ∷ bs)) (b ∷ bs) ∷ cs)
    (more_is_same (length bs) (length (drop (first_len (b ∷ bs)) (b ∷ bs))) (drop (first_len (b ∷ bs)) (b ∷ bs)) (shorter (length bs) b bs (omega arith)) (omega arith))

pub counted : (n : ℕ) (xs : List (List ℕ)) (c : List ℕ) (cs : List (List ℕ)) (total : ℕ) → n + length xs ≡ total → xs ≡ c ∷ cs → (n + 1) + length cs ≡ total
counted n xs c cs total h e = let k : length xs ≡ length (c ∷ cs) = ap length e in omega arith

pub drop_none : (n : ℕ) → drop n (chars []) ≡ chars []
drop_none zero = refl
drop_none (suc n) = ap (drop (suc n)) chars-nil ∙ sym chars-nil

pub some_bytes : (bytes : List ℕ) (b : Bool) → b ≡ (length bytes == 0) → b ≡ false → 0 < length bytes
some_bytes [] b h e = cc
some_bytes (x ∷ xs) b h e = omega arith

pub all_counted : (n total : ℕ) (rest : List ℕ) → rest ≡ [] → n + length (chars rest) ≡ total → n ≡ total
all_counted n total rest e h = let k : length (chars rest) ≡ 0 = ap (λ r. length (chars r)) e ∙ ap length chars-nil in omega arith

pub none_dropped : (n : ℕ) (rest : List ℕ) (xs : List (List ℕ)) → rest ≡ [] → drop n (chars rest) ≡ xs → chars rest ≡ xs
none_dropped n rest xs e h = ap chars e ∙ sym (drop_none n) ∙ sym (ap (λ r. drop n (chars r)) e) ∙ h

pub split_there : (bytes front back : List ℕ) (n : ℕ) → 0 < length bytes → n ≡ first_len bytes → front ≡ take n bytes → back ≡ drop n bytes
    → (chars bytes ≡ front ∷ chars back) × (length back < length bytes)
split_there bytes front back n some len f b =
    let bounds = first_len-bounds bytes some in
    let rest : length back ≡ length bytes - first_len bytes = ap length b ∙ ap (λ m. length (drop m bytes)) len ∙ length-drop (first_len bytes) bytes in (
      chars-split bytes some ∙ ap (λ m. take m bytes ∷ chars (drop m bytes)) (sym len) ∙ ap (λ x. x ∷ chars (drop n bytes)) (sym f) ∙ ap (λ x. front ∷ chars x) (sym b),
      omega (arith, bounds.0),
    )
