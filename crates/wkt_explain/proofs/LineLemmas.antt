-- The last line of some bytes, and how it grows.
use Rattle.std.proofs.Common.{◌≡◌, ℕ, ◌+◌, ◌-◌, ◌<◌, ◌≤◌, Bool, true, false, not, ◌==◌, ◌&&◌, cond, List, [], ◌∷◌, ◌++◌, length, take, drop, reverse, refl, ap, sym, ◌∙◌, arith, append_assoc, length-drop, one-add}
use Rattle.std.specs.List.{list_all, prefix_len, suffix_len}
use Rattle.std.proofs.lemmas.List.{append-nil, drop_all, reverse-append, reverse-reverse, length-reverse, length-append, drop-append-le, take-append-drop, take_at, drop_at}
use Rattle.std.proofs.lemmas.List.Sums.{suffix_len-le-length, sum_by-append}
use Rattle.std.proofs.lemmas.List.Folds.{list_all-append}
use Rattle.std.proofs.lemmas.Bool.{and_parts}
use Rattle.wkt_explain.specs.Position.{goes_on, last_line, feeds}

-- ---- tests of all elements

all_reversed : (p : ℕ → Bool) (xs : List ℕ) → list_all p xs ≡ true → list_all p (reverse xs) ≡ true
all_reversed p [] h = refl
all_reversed p (x ∷ xs) h =
    let parts = and_parts (p x) (list_all p xs) h in
    ap (list_all p) (reverse-append (x ∷ []) xs)
    ∙ list_all-append p (reverse xs) (x ∷ [])
    ∙ ap (λ b. b && (p x && true)) (all_reversed p xs parts.1)
    ∙ ap (λ b. b && true) parts.0

front_passes : (p : ℕ → Bool) (xs : List ℕ) → list_all p (take (prefix_len p xs) xs) ≡ true
front_passes p [] = refl
front_passes p (x ∷ xs) = elim (p x) as (λ b. p x ≡ b → list_all p (take (cond b (1 + prefix_len p xs) 0) (x ∷ xs)) ≡ true) [
  | true ↦ λ e. ap (λ n. list_all p (take n (x ∷ xs))) (one-add (prefix_len p xs)) ∙ ap (λ b. b && list_all p (take (prefix_len p xs) xs)) e ∙ front_passes p xs
  | false ↦ λ e. refl
] refl

none_behind : (p : ℕ → Bool) (xs : List ℕ) → prefix_len p (drop (prefix_len p xs) xs) ≡ 0
none_behind p [] = refl
none_behind p (x ∷ xs) = elim (p x) as (λ b. p x ≡ b → prefix_len p (drop (cond b (1 + prefix_len p xs) 0) (x ∷ xs)) ≡ 0) [
  | true ↦ λ e. ap (λ n. prefix_len p (drop n (x ∷ xs))) (one-add (prefix_len p xs)) ∙ none_behind p xs
  | false ↦ λ e. ap (λ b. cond b (1 + prefix_len p xs) 0) e
] refl

still_none : (p : ℕ → Bool) (xs ys : List ℕ) → 0 < length xs → prefix_len p xs ≡ 0 → prefix_len p (xs ++ ys) ≡ 0
still_none p [] ys some h = absurd (omega arith)
still_none p (x ∷ xs) ys some h = elim (p x) as (λ b. p x ≡ b → cond b (1 + prefix_len p xs) 0 ≡ 0 → cond b (1 + prefix_len p (xs ++ ys)) 0 ≡ 0) [
  | true ↦ λ e k. absurd (omega (arith, k))
  | false ↦ λ e k. refl
] refl h

-- ---- bytes, split before the longest suffix of bytes that pass

abbrev Parts : (ℕ → Bool) → List ℕ → Type 0
Parts p xs = (reverse (drop (length xs - suffix_len p xs) xs) ≡ take (suffix_len p xs) (reverse xs))
    × (reverse (take (length xs - suffix_len p xs) xs) ≡ drop (suffix_len p xs) (reverse xs))

parts_of : (p : ℕ → Bool) (xs : List ℕ) → Parts p xs
parts_of p xs =
    let n = length xs - suffix_len p xs in
    let whole : reverse xs ≡ reverse (drop n xs) ++ reverse (take n xs) = ap reverse (sym (take-append-drop n xs)) ∙ reverse-append (take n xs) (drop n xs) in
    let short : suffix_len p xs ≤ length xs = suffix_len-le-length p xs in
    let len : length (reverse (drop n xs)) ≡ suffix_len p xs = length-reverse (drop n xs) ∙ length-drop n xs ∙ omega arith in (
      sym (ap (take (suffix_len p xs)) whole ∙ take_at (reverse (drop n xs)) (reverse (take n xs)) (suffix_len p xs) len),
      sym (ap (drop (suffix_len p xs)) whole ∙ drop_at (reverse (drop n xs)) (reverse (take n xs)) (suffix_len p xs) len),
    )

-- the last line contains no line feed
pub last_line-goes_on : (xs : List ℕ) → list_all goes_on (last_line xs) ≡ true
last_line-goes_on xs =
    let e = (parts_of goes_on xs).0 in
    let n = length xs - suffix_len goes_on xs in
    ap (list_all goes_on) (sym (reverse-reverse (drop n xs)))
    ∙ all_reversed goes_on (reverse (drop n xs)) (ap (list_all goes_on) e ∙ front_passes goes_on (reverse xs))

-- the complete lines of some bytes, if there are any, are followed by an empty last line
pub lines_end : (before xs lines : List ℕ) → lines ≡ take (length xs - suffix_len goes_on xs) xs → 0 < length lines → last_line (before ++ lines) ≡ []
lines_end before xs lines e some =
    let none : suffix_len goes_on lines ≡ 0 =
    ap (λ l. suffix_len goes_on l) e ∙ ap (prefix_len goes_on) (parts_of goes_on xs).1 ∙ none_behind goes_on (reverse xs) in
    let none_of_all : suffix_len goes_on (before ++ lines) ≡ 0 =
    ap (prefix_len goes_on) (reverse-append before lines)
    ∙ still_none goes_on (reverse lines) (reverse before) (rw length-reverse some) none in
    ap (λ n. drop (length (before ++ lines) - n) (before ++ lines)) none_of_all ∙ drop_all (length (before ++ lines) - 0) (before ++ lines) (omega arith)

-- a byte that ends no line is appended to the last line
one_more : (before : List ℕ) (b : ℕ) → goes_on b ≡ true → last_line (before ++ b ∷ []) ≡ last_line before ++ b ∷ []
one_more before b h =
    let s = suffix_len goes_on before in
    let longer : suffix_len goes_on (before ++ b ∷ []) ≡ 1 + s =
    ap (prefix_len goes_on) (reverse-append before (b ∷ [])) ∙ ap (λ t. cond t (1 + s) 0) h in
    let same : length (before ++ b ∷ []) - (1 + s) ≡ length before - s = ap (λ n. n - (1 + s)) (length-append before (b ∷ [])) ∙ omega arith in
    ap (λ n. drop (length (before ++ b ∷ []) - n) (before ++ b ∷ [])) longer
    ∙ ap (λ n. drop n (before ++ b ∷ [])) same
    ∙ drop-append-le (length before - s) before (b ∷ []) (omega arith)

pub line_grows : (before more : List ℕ) → list_all goes_on more ≡ true → last_line (before ++ more) ≡ last_line before ++ more
line_grows before [] h = ap last_line (append-nil before) ∙ sym (append-nil (last_line before))
line_grows before (b ∷ bs) h =
    let parts = and_parts (goes_on b) (list_all goes_on bs) h in
    ap last_line (sym (append_assoc before (b ∷ []) bs))
    ∙ line_grows (before ++ b ∷ []) bs parts.1
    ∙ ap (λ l. l ++ bs) (one_more before b parts.0)
    ∙ append_assoc (last_line before) (b ∷ []) bs

-- ---- line feeds

pub feeds-append : (xs ys : List ℕ) → feeds (xs ++ ys) ≡ feeds xs + feeds ys
feeds-append xs ys = sum_by-append (λ b. cond (b == 10) 1 0) xs ys

none_of : (b : ℕ) → goes_on b ≡ true → feeds (b ∷ []) ≡ 0
none_of b h = elim (b == 10) as (λ t. not t ≡ true → 0 + cond t 1 0 ≡ 0) [ true ↦ λ e. absurd (cc e) | false ↦ λ e. refl ] h

pub no_feeds : (xs : List ℕ) → list_all goes_on xs ≡ true → feeds xs ≡ 0
no_feeds [] h = refl
no_feeds (b ∷ bs) h =
    let parts = and_parts (goes_on b) (list_all goes_on bs) h in
    feeds-append (b ∷ []) bs ∙ ap (λ n. n + feeds bs) (none_of b parts.0) ∙ ap (λ n. 0 + n) (no_feeds bs parts.1)
