-- What `utf8_lossy` makes of any bytes is UTF-8.
use Rattle.std.proofs.Common.{◌≡◌, ℕ, zero, suc, ◌+◌, ◌-◌, ◌<◌, ◌≤◌, ◌==◌, nat_lt, Bool, true, false, List, [], ◌∷◌, ◌++◌, length, take, drop, slice_index, Some, None, IsUtf8, if◌then◌else◌, refl, subst, arith, length-drop}
use Rattle.std.specs.Int.{is_in_range}
use Rattle.std.specs.Option.{unwrap_or}
use Rattle.std.specs.Char.{encode_utf8}
use Rattle.std.specs.Str.{is_utf8}
use Rattle.std.specs.Str.Lossy.{valid_len_up_to, utf8_valid_len, utf8_error_len, utf8_invalid_len, second_byte_min, second_byte_max, after_first_chunk, replacement_bytes, utf8_lossy_within, utf8_lossy}
use Rattle.std.proofs.lemmas.Bool.{eqb-true, eqb-false}
use Rattle.std.proofs.lemmas.Bool.Decides.{nat_tests}
use Rattle.std.proofs.lemmas.List.{take_all}
use Rattle.std.proofs.lemmas.Str.{IsUtf8-nil, IsUtf8-append, IsUtf8-encode, IsUtf8-from_is_utf8, utf8_valid_len_le}

front_by : (bs : List ℕ) (m : ℕ) (b : Bool) → is_utf8 (take (suc m) bs) ≡ b → IsUtf8 (take (valid_len_up_to bs m) bs) → IsUtf8 (take (if b then suc m else valid_len_up_to bs m) bs)
front_by bs m true e rest = IsUtf8-from_is_utf8 (take (suc m) bs) e
front_by bs m false e rest = rest

front : (bs : List ℕ) (m : ℕ) → IsUtf8 (take (valid_len_up_to bs m) bs)
front bs zero = IsUtf8-nil
front bs (suc m) = front_by bs m (is_utf8 (take (suc m) bs)) refl (front bs m)

valid_front : (bs : List ℕ) → IsUtf8 (take (utf8_valid_len bs) bs)
unfolding utf8_valid_len
valid_front bs = front bs (length bs)

replacement_is : encode_utf8 0xFFFD ≡ replacement_bytes
unfolding encode_utf8
replacement_is = refl

replacement : IsUtf8 replacement_bytes
replacement = subst IsUtf8 replacement_is (IsUtf8-encode 0xFFFD refl)

some_by : (z a b c d e f : Bool) (n : ℕ) → 0 < n → z ≡ false
    → 0 < unwrap_or (if z then None else (if a then (if b then None else (if c then (if d then None else (if e then (if f then None else Some 3) else Some 2)) else Some 1)) else Some 1)) n
some_by true a b c d e f n h is = cc
some_by false false b c d e f n h is = omega arith
some_by false true true c d e f n h is = h
some_by false true false false d e f n h is = omega arith
some_by false true false true true e f n h is = h
some_by false true false true false false f n h is = omega arith
some_by false true false true false true true n h is = h
some_by false true false true false true false n h is = omega arith

-- where no character begins, at least one byte is none
invalid_some : (bs : List ℕ) → 0 < length bs → 0 < utf8_invalid_len bs
unfolding utf8_error_len
invalid_some bs h =
    let z : (length bs == 0) ≡ false = grind (arith, nat_tests) in
    let x = slice_index bs 0 in
    some_by (length bs == 0) (is_in_range 0xC2 0xF4 x) (nat_lt (length bs) 2) (is_in_range (second_byte_min x) (second_byte_max x) (slice_index bs 1))
    (nat_lt (length bs) 3) (is_in_range 0x80 0xBF (slice_index bs 2)) (nat_lt (length bs) 4) (length bs) h z

shorter : (bs : List ℕ) (k : ℕ) → length bs ≤ suc k → (utf8_valid_len bs == length bs) ≡ false → length (after_first_chunk bs) ≤ k
shorter bs k h differs =
    let n = utf8_valid_len bs in
    let most : n ≤ length bs = utf8_valid_len_le bs in
    let other : (n ≡ length bs → ⊥) = eqb-false _ _ differs in
    let left : length (drop n bs) ≡ length bs - n = length-drop n bs in
    let some : 0 < utf8_invalid_len (drop n bs) = invalid_some (drop n bs) (omega (arith, other)) in
    let rest : length (after_first_chunk bs) ≡ length bs - (n + utf8_invalid_len (drop n bs)) = length-drop (n + utf8_invalid_len (drop n bs)) bs in
    omega arith

text_by : (bs rest : List ℕ) (b : Bool) → (utf8_valid_len bs == length bs) ≡ b → (b ≡ false → IsUtf8 rest)
    → IsUtf8 (if b then bs else take (utf8_valid_len bs) bs ++ (replacement_bytes ++ rest))
text_by bs rest true e u =
    let same : utf8_valid_len bs ≡ length bs = eqb-true _ _ e in
    subst IsUtf8 (take_all (utf8_valid_len bs) bs (omega arith)) (valid_front bs)
text_by bs rest false e u =
    IsUtf8-append (take (utf8_valid_len bs) bs) (replacement_bytes ++ rest) (valid_front bs) (IsUtf8-append replacement_bytes rest replacement (u refl))

within : (k : ℕ) (bs : List ℕ) → length bs ≤ k → IsUtf8 (utf8_lossy_within k bs)
within zero [] h = IsUtf8-nil
within zero (b ∷ bs) h = absurd (omega arith)
within (suc k) bs h = text_by bs (utf8_lossy_within k (after_first_chunk bs)) (utf8_valid_len bs == length bs) refl (λ differs. within k (after_first_chunk bs) (shorter bs k h differs))

pub lossy : (bs : List ℕ) → IsUtf8 (utf8_lossy bs)
unfolding utf8_lossy
lossy bs = within (length bs) bs (omega arith)
