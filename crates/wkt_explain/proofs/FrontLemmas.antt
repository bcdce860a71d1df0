-- The first characters of a prefix of some bytes are those of the bytes.
use Rattle.std.proofs.Common.{◌≡◌, ℕ, zero, suc, ◌+◌, ◌-◌, ◌*◌, ◌<◌, ◌≤◌, Bool, true, false, cond, List, [], ◌∷◌, ◌++◌, length, take, drop, min, nat_le, nat_lt, refl, ap, sym, ◌∙◌, arith, append_assoc, length-drop}
use Rattle.std.specs.Str.{is_utf8}
use Rattle.std.proofs.lemmas.List.{length-take, drop-take, length-append, take-take, take_all}
use Rattle.std.proofs.Math.Nat.{min-le_left, min-le_right, le-min}
use Rattle.std.proofs.Math.Seq.{take-add}
use Rattle.std.proofs.lemmas.Bool.{and_parts, and_from, leb-true, le-leb}
use Rattle.wkt_explain.specs.Characters.{is_wide, first_len, chars}
use Rattle.wkt_explain.specs.Walk.{AreWhole}
use Rattle.wkt_explain.proofs.CharLemmas.{chars-nil, chars-split, first_len-bounds}

-- ---- the length of the first character

wide_front : (k n : ℕ) (bytes : List ℕ) → is_wide k bytes ≡ true → k ≤ n → is_wide k (take n bytes) ≡ true
wide_front k n bytes h le =
    let parts = and_parts (nat_le k (length bytes)) (is_utf8 (take k bytes)) h in
    and_from (nat_le k (length (take n bytes))) (is_utf8 (take k (take n bytes)))
    (ap (nat_le k) (length-take n bytes) ∙ le-leb k (min n (length bytes)) (le-min le (leb-true k (length bytes) parts.0)))
    (ap is_utf8 (take-take k n bytes le) ∙ parts.1)

wide_back : (k n : ℕ) (bytes : List ℕ) → is_wide k (take n bytes) ≡ true → is_wide k bytes ≡ true
wide_back k n bytes h =
    let parts = and_parts (nat_le k (length (take n bytes))) (is_utf8 (take k (take n bytes))) h in
    let le : k ≤ min n (length bytes) = leb-true k (min n (length bytes)) (ap (nat_le k) (sym (length-take n bytes)) ∙ parts.0) in
    let left : min n (length bytes) ≤ n = min-le_left n (length bytes) in
    let right : min n (length bytes) ≤ length bytes = min-le_right n (length bytes) in
    and_from (nat_le k (length bytes)) (is_utf8 (take k bytes))
    (le-leb k (length bytes) (omega arith))
    (ap is_utf8 (sym (take-take k n bytes (omega arith))) ∙ parts.1)

wide_only : (k n : ℕ) (bytes : List ℕ) → is_wide k bytes ≡ false → is_wide k (take n bytes) ≡ false
wide_only k n bytes h = elim (is_wide k (take n bytes)) as (λ b. is_wide k (take n bytes) ≡ b → b ≡ false) [
  | true ↦ λ e. sym (wide_back k n bytes e) ∙ h
  | false ↦ λ e. refl
] refl

-- the position of the first of four tests that holds, from 1; otherwise 1
abbrev picked : Bool → Bool → Bool → Bool → ℕ
picked a b c d = cond a 1 (cond b 2 (cond c 3 (cond d 4 1)))

picked_small : (a b c d : Bool) → picked a b c d ≤ 4
picked_small true b c d = omega arith
picked_small false true c d = omega arith
picked_small false false true d = omega arith
picked_small false false false true = omega arith
picked_small false false false false = omega arith

abbrev Alike : Bool → Bool → ℕ → ℕ → Type 0
Alike b b' k n = (b ≡ true → k ≤ n → b' ≡ true) × (b ≡ false → b' ≡ false)

picked_alike : (a b c d b' c' d' : Bool) (n : ℕ) → picked a b c d ≤ n → Alike b b' 2 n → Alike c c' 3 n → Alike d d' 4 n → picked a b' c' d' ≡ picked a b c d
picked_alike true b c d b' c' d' n h x y z = refl
picked_alike false true c d b' c' d' n h x y z = ap (λ t. picked false t c' d') (x.0 refl h)
picked_alike false false true d b' c' d' n h x y z = ap (λ t. picked false t c' d') (x.1 refl) ∙ ap (λ t. picked false false t d') (y.0 refl h)
picked_alike false false false true b' c' d' n h x y z =
    ap (λ t. picked false t c' d') (x.1 refl) ∙ ap (λ t. picked false false t d') (y.1 refl) ∙ ap (picked false false false) (z.0 refl h)
picked_alike false false false false b' c' d' n h x y z =
    ap (λ t. picked false t c' d') (x.1 refl) ∙ ap (λ t. picked false false t d') (y.1 refl) ∙ ap (picked false false false) (z.1 refl)

pub first_len-small : (bytes : List ℕ) → first_len bytes ≤ 4
unfolding first_len
first_len-small [] = omega arith
first_len-small (b ∷ bs) = picked_small (nat_lt b 128) (is_wide 2 (b ∷ bs)) (is_wide 3 (b ∷ bs)) (is_wide 4 (b ∷ bs))

alike : (k n : ℕ) (bytes : List ℕ) → Alike (is_wide k bytes) (is_wide k (take n bytes)) k n
alike k n bytes = (wide_front k n bytes, wide_only k n bytes)

first_len-front : (bytes : List ℕ) (n : ℕ) → 0 < length bytes → first_len bytes ≤ n → first_len (take n bytes) ≡ first_len bytes
unfolding first_len
first_len-front [] n some le = absurd (omega arith)
first_len-front (b ∷ bs) zero some le = let k = first_len-bounds (b ∷ bs) some in absurd (omega (arith, k.0))
first_len-front (b ∷ bs) (suc n) some le =
    picked_alike (nat_lt b 128) (is_wide 2 (b ∷ bs)) (is_wide 3 (b ∷ bs)) (is_wide 4 (b ∷ bs))
    (is_wide 2 (b ∷ take n bs)) (is_wide 3 (b ∷ take n bs)) (is_wide 4 (b ∷ take n bs)) (suc n) le
    (alike 2 (suc n) (b ∷ bs)) (alike 3 (suc n) (b ∷ bs)) (alike 4 (suc n) (b ∷ bs))

-- ---- characters

some_left : (n : ℕ) (bytes : List ℕ) → 0 < length bytes → 0 < n → 0 < length (take n bytes)
some_left zero bytes some h = absurd (omega arith)
some_left (suc n) [] some h = absurd (omega arith)
some_left (suc n) (b ∷ bs) some h = omega arith

back_of_front : (k m : ℕ) (xs : List ℕ) → k ≤ m → drop k (take m xs) ≡ take (m - k) (drop k xs)
back_of_front k m xs le = let e : m ≡ k + (m - k) = omega arith in ap (λ n. drop k (take n xs)) e ∙ drop-take k (m - k) xs

-- a prefix that contains the first character begins with it
front_split : (bytes : List ℕ) (k m : ℕ) → 0 < length bytes → k ≡ first_len bytes → k ≤ m
    → chars (take m bytes) ≡ take k bytes ∷ chars (take (m - k) (drop k bytes))
front_split bytes k m some e le =
    let bounds = first_len-bounds bytes some in
    let fits : first_len bytes ≤ m = omega (arith, e) in
    let same : first_len (take m bytes) ≡ k = first_len-front bytes m some fits ∙ sym e in
    chars-split (take m bytes) (some_left m bytes some (omega (arith, bounds.0, fits)))
    ∙ ap (λ n. take n (take m bytes) ∷ chars (drop n (take m bytes))) same
    ∙ ap (λ c. c ∷ chars (drop k (take m bytes))) (take-take k m bytes le)
    ∙ ap (λ x. take k bytes ∷ chars x) (back_of_front k m bytes le)

-- a prefix of 4 n bytes or more has the same first n characters
pub first_chars_of_front : (n m : ℕ) (bytes : List ℕ) → 4 * n ≤ m → take n (chars (take m bytes)) ≡ take n (chars bytes)
first_chars_of_front zero m bytes le = refl
first_chars_of_front (suc n) m [] le = ap (λ x. take (suc n) (chars x)) (take_all m [] (omega arith))
first_chars_of_front (suc n) m (b ∷ bs) le =
    let k = first_len (b ∷ bs) in
    let small : k ≤ 4 = first_len-small (b ∷ bs) in
    let le' : 4 * n ≤ m - k = omega arith in
    ap (take (suc n)) (front_split (b ∷ bs) k m (omega arith) refl (omega arith))
    ∙ ap (λ (cs : List (List ℕ)). take k (b ∷ bs) ∷ cs) (first_chars_of_front n (m - k) (drop k (b ∷ bs)) le')
    ∙ sym (ap (take (suc n)) (chars-split (b ∷ bs) (omega arith)))

many : (n : ℕ) (bytes : List ℕ) → length bytes ≤ n → length bytes ≤ 4 * length (chars bytes)
many n [] le = omega arith
many zero (b ∷ bs) le = absurd (omega arith)
many (suc n) (b ∷ bs) le =
    let k = first_len (b ∷ bs) in
    let rest = drop k (b ∷ bs) in
    let bounds = first_len-bounds (b ∷ bs) (omega arith) in
    let small : k ≤ 4 = first_len-small (b ∷ bs) in
    let len : length rest ≡ suc (length bs) - k = length-drop k (b ∷ bs) in
    let more : length rest ≤ 4 * length (chars rest) = many n rest (omega (arith, len, bounds.0)) in
    let count : length (chars (b ∷ bs)) ≡ suc (length (chars rest)) = ap length (chars-split (b ∷ bs) (omega arith)) in
    omega (arith, len, more, count, bounds.1)

-- there are at most four bytes to a character
pub many_chars : (bytes : List ℕ) → length bytes ≤ 4 * length (chars bytes)
many_chars bytes = many (length bytes) bytes (omega arith)

-- ---- whole characters

pub none_whole : (behind : List ℕ) → AreWhole [] behind
none_whole behind n = sym (ap (λ cs. cs ++ chars (take n behind)) chars-nil)

-- a line of whole characters, extended by the next character, is one of whole characters, with one more
pub one_more_whole : (line rest : List ℕ) (k : ℕ) → AreWhole line rest → 0 < length rest → k ≡ first_len rest
    → AreWhole (line ++ take k rest) (drop k rest) × (length (chars (line ++ take k rest)) ≡ length (chars line) + 1)
one_more_whole line rest k whole some e =
    let next : (n : ℕ) → chars (line ++ take (k + n) rest) ≡ chars line ++ (take k rest ∷ chars (take n (drop k rest))) =
    λ n. whole (k + n)
    ∙ ap (λ cs. chars line ++ cs) (front_split rest k (k + n) some e (omega arith))
    ∙ ap (λ m. chars line ++ (take k rest ∷ chars (take m (drop k rest)))) (let d : (k + n) - k ≡ n = omega arith in d) in
    let none : k + 0 ≡ k = omega arith in
    let alone : chars (line ++ take k rest) ≡ chars line ++ (take k rest ∷ []) =
    ap (λ m. chars (line ++ take m rest)) (sym none) ∙ next 0 ∙ ap (λ cs. chars line ++ (take k rest ∷ cs)) chars-nil in (
      λ n.
          ap chars (append_assoc line (take k rest) (take n (drop k rest)))
          ∙ ap (λ x. chars (line ++ x)) (sym (take-add k n rest))
          ∙ next n
          ∙ sym (append_assoc (chars line) (take k rest ∷ []) (chars (take n (drop k rest))))
          ∙ ap (λ cs. cs ++ chars (take n (drop k rest))) (sym alone),
      ap length alone ∙ length-append (chars line) (take k rest ∷ []),
    )
