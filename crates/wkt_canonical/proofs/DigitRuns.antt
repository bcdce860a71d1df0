-- Leading digits, found sixteen bytes at a time.
use Rattle.std.proofs.Common.{◌≡◌, ℕ, zero, suc, ◌+◌, ◌-◌, ◌%◌, ◌^◌, ◌<◌, ◌≤◌, Bool, eqb, ltb, not, cond, List, [], ◌∷◌, map, length, take, drop, get_or, replicate, w8, sym, ap, ◌∙◌, arith}
use Rattle.std.specs.Char.{is_ascii_digit}
use Rattle.std.specs.List.{prefix_len}
use Rattle.std.proofs.lemmas.Bool.{eq-eqb, ne_eqb, cond-true, cond-false}
use Rattle.std.proofs.lemmas.List.{length-map, length-take-le, length-drop, take-append-drop}
use Rattle.std.proofs.lemmas.List.Sums.{prefix_len-le-length, prefix_len_passes, prefix_len_stops, prefix_len_is}
use Rattle.std.proofs.lemmas.List.Folds.{prefix_len-append}
use Rattle.std.proofs.lemmas.Simd.{tops_compared, zip2_splat, zip2_splat_left, mask_l-mod, first_set_mask_l, map-map}
use lib.Lanes.{zip2, mask_l, top}
use lib.Count.{count_trailing_zeros}

abbrev less_zero : List ℕ → List ℕ
less_zero lanes = zip2 (λ a b. (a + (2 ^ 8 - b)) % 2 ^ 8) lanes (replicate 16 48)

abbrev others_of : List ℕ → ℕ
others_of lanes = mask_l (map (top 7) (zip2 (λ a b. cond (ltb a b) 255 0) (replicate 16 9) (less_zero lanes))) % 2 ^ 64

abbrev is_other : ℕ → Bool
is_other x = ltb 9 ((x + (2 ^ 8 - 48)) % 2 ^ 8)

others_are : (lanes : List ℕ) → length lanes ≡ 16 → others_of lanes ≡ mask_l (map is_other lanes)
others_are lanes long =
    let less : less_zero lanes ≡ map (λ x. (x + (2 ^ 8 - 48)) % 2 ^ 8) lanes = zip2_splat (λ a b. (a + (2 ^ 8 - b)) % 2 ^ 8) lanes 16 48 long in
    let size : length (less_zero lanes) ≡ 16 = ap length less ∙ length-map lanes (λ x. (x + (2 ^ 8 - 48)) % 2 ^ 8) ∙ long in
    let compared : zip2 ltb (replicate 16 9) (less_zero lanes) ≡ map is_other lanes = zip2_splat_left ltb 9 16 (less_zero lanes) size ∙ ap (map (ltb 9)) less ∙ map-map (ltb 9) (λ x. (x + (2 ^ 8 - 48)) % 2 ^ 8) lanes in
    ap (λ ms. mask_l ms % 2 ^ 64) (tops_compared w8 ltb (replicate 16 9) (less_zero lanes) ∙ compared)
    ∙ mask_l-mod (map is_other lanes) 64 (omega (arith, length-map lanes is_other, long))

same_prefix : (p q : ℕ → Bool) (xs : List ℕ) → ((k : ℕ) → p (get_or xs k 0) ≡ q (get_or xs k 0)) → prefix_len p xs ≡ prefix_len q xs
same_prefix p q xs same =
    prefix_len_is p xs (prefix_len q xs) 0 (prefix_len-le-length q xs)
    (λ k below. same k ∙ prefix_len_passes q xs k 0 below)
    (λ inside. same (prefix_len q xs) ∙ prefix_len_stops q xs 0 inside)

digit_or_other : (x : ℕ) → x < 256 → not (is_other x) ≡ is_ascii_digit x
digit_or_other x small = grind arith

kept : (n : ℕ) (xs : List ℕ) (k : ℕ) → ((j : ℕ) → get_or xs j 0 < 256) → get_or (take n xs) k 0 < 256
kept zero xs k small = omega arith
kept (suc n) [] k small = omega arith
kept (suc n) (x ∷ xs) zero small = small 0
kept (suc n) (x ∷ xs) (suc k) small = kept n xs k (λ j. small (suc j))

abbrev first_set : ℕ → ℕ
first_set others = cond (eqb others 0) 16 (count_trailing_zeros 64 others)

run_counted : (bytes : List ℕ) → 16 ≤ length bytes → ((k : ℕ) → get_or bytes k 0 < 256) → first_set (others_of (take 16 bytes)) ≡ prefix_len is_ascii_digit (take 16 bytes)
run_counted bytes room small =
    let lanes = take 16 bytes in
    let long : length lanes ≡ 16 = length-take-le 16 bytes room in
    ap first_set (others_are lanes long) ∙ first_set_mask_l is_other lanes 16 long (omega arith)
    ∙ same_prefix (λ x. not (is_other x)) is_ascii_digit lanes (λ k. digit_or_other (get_or lanes k 0) (kept 16 bytes k small))

pub all_digits : (bytes : List ℕ) → 16 ≤ length bytes → ((k : ℕ) → get_or bytes k 0 < 256) → others_of (take 16 bytes) ≡ 0 → 16 ≡ prefix_len is_ascii_digit (take 16 bytes)
all_digits bytes room small none = sym (cond-true _ _ _ (eq-eqb _ _ none)) ∙ run_counted bytes room small

pub first_other : (bytes : List ℕ) → 16 ≤ length bytes → ((k : ℕ) → get_or bytes k 0 < 256) → (others_of (take 16 bytes) ≡ 0 → ⊥) → count_trailing_zeros 64 (others_of (take 16 bytes)) ≡ prefix_len is_ascii_digit (take 16 bytes)
first_other bytes room small some = sym (cond-false _ _ _ (ne_eqb _ _ some)) ∙ run_counted bytes room small

front_len : (bytes : List ℕ) → 16 ≤ length bytes → prefix_len is_ascii_digit bytes ≡ cond (eqb (prefix_len is_ascii_digit (take 16 bytes)) (length (take 16 bytes))) (length (take 16 bytes) + prefix_len is_ascii_digit (drop 16 bytes)) (prefix_len is_ascii_digit (take 16 bytes))
front_len bytes room = ap (prefix_len is_ascii_digit) (sym (take-append-drop 16 bytes)) ∙ prefix_len-append is_ascii_digit (take 16 bytes) (drop 16 bytes)

-- a run that ends among the first sixteen bytes is the whole run
pub ends_early : (bytes : List ℕ) (run : ℕ) → 16 ≤ length bytes → run ≡ prefix_len is_ascii_digit (take 16 bytes) → run < 16 → run ≡ prefix_len is_ascii_digit bytes
ends_early bytes run room is short =
    let ended : (prefix_len is_ascii_digit (take 16 bytes) ≡ length (take 16 bytes)) → ⊥ = λ all. omega (arith, is, all, length-take-le 16 bytes room) in
    is ∙ sym (front_len bytes room ∙ cond-false _ _ _ (ne_eqb _ _ ended))

-- the digits behind sixteen bytes, and these, are no more than the bytes
pub stays_in : (bytes : List ℕ) → 16 ≤ length bytes → 16 + prefix_len is_ascii_digit (take (length bytes - 16) (drop 16 bytes)) ≤ length bytes
stays_in bytes room =
    let rest = take (length bytes - 16) (drop 16 bytes) in
    omega (arith, prefix_len-le-length is_ascii_digit rest, length-take-le (length bytes - 16) (drop 16 bytes) (omega (arith, length-drop 16 bytes)), length-drop 16 bytes)
