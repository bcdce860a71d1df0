-- Digits, with or without a period among them, are the canonical text of a number.
use Rattle.std.proofs.Common.{◌≡◌, ◌≢◌, ℕ, zero, suc, ◌+◌, ◌*◌, ◌/◌, ◌%◌, ◌^◌, ◌<◌, ◌≤◌, true, not, List, [], ◌∷◌, ◌++◌, length, get_or, replicate, decimal, ℤ, pos, negsuc, ◌≤ℤ◌, unsigned_abs, refl, sym, ap, ◌∙◌, ⊎_elim, arith, div-one, pow-suc, mul_comm, append_assoc, append-nil, length-append, add-one}
use Rattle.std.specs.Int.{is_positive, is_negative}
use Rattle.std.specs.Char.{digit_value}
use Rattle.std.specs.Str.Parse.{AllDigits, digits_value, digits_value_after}
use Rattle.std.proofs.Math.Nat.{div-div-eq-div-mul, pow-le-pow_right}
use Rattle.std.proofs.lemmas.Bool.{cases_eq}
use Rattle.std.proofs.lemmas.Bool.Decides.{nat_tests}
use Rattle.std.proofs.lemmas.Fmt.{decimal_step_wide, decimal_digit, decimal-digits_value}
use Rattle.std.proofs.lemmas.Int.{ints}
use Rattle.std.proofs.lemmas.Int.Digits.{digits_value-lt}
use Rattle.std.proofs.lemmas.List.{replicate_more}
use Rattle.std.proofs.lemmas.Str.Parse.{numerals_by_value, tells_digits}
use Rattle.crs_number.specs.Canonical.{last_digits, plain_text, canonical}
use Rattle.crs_number.specs.Reading.{CutsDigits}
use Rattle.crs_number.specs.declared.decimals.Decimal.{Decimal}
use Rattle.crs_number.proofs.Powers.{digit_is, value_append}
use Rattle.wkt_grammar.specs.Trees.{number_tree}
use Rattle.wkt_canonical.specs.Reads.{ReadsFirst, any, is_above_zero, is_not_below_zero}
use Rattle.wkt_canonical.specs.Digits.{ReadsFraction}

-- the bytes are the canonical text of a number above zero
pub record IsAboveZero (bytes : List ℕ) : Type 0 where
  pub value : Decimal
  pub passes : is_positive value.coefficient ≡ true
  pub is : bytes ≡ canonical value.coefficient value.exponent

passes_positive : (n : ℕ) → (n ≡ 0 → ⊥) → is_positive (pos n) ≡ true
passes_positive n h = grind (arith, nat_tests)

-- ---- the last digits of a number

fewer : (k n : ℕ) → n / 10 / 10 ^ k ≡ n / 10 ^ suc k
fewer k n = rw pow-suc (div-div-eq-div-mul n 10 (10 ^ k) ∙ ap (λ d. n / d) (mul_comm 10 (10 ^ k)))

first_of_last : (k n : ℕ) → last_digits (suc k) n ≡ (48 + n / 10 ^ k % 10) ∷ last_digits k n
first_of_last zero n = ap (λ m. (48 + m % 10) ∷ []) (sym (div-one n))
first_of_last (suc k) n =
    ap (λ ds. ds ++ ((48 + n % 10) ∷ [])) (first_of_last k (n / 10))
    ∙ ap (λ m. (48 + m % 10) ∷ last_digits (suc k) n) (fewer k n)

-- s is the number w with these digits appended
record Behind (w s : ℕ) (digits : List ℕ) : Type 0 where
  whole : s / 10 ^ length digits ≡ w
  last : last_digits (length digits) s ≡ digits

digits_behind : (w : ℕ) (digits : List ℕ) → AllDigits 10 digits → Behind w (digits_value_after 10 w digits) digits
digits_behind w [] d = record { whole = div-one w; last = refl }
digits_behind w (c ∷ cs) d =
    let m = w * 10 + digit_value c in
    let s = digits_value_after 10 m cs in
    let k = length cs in
    let more = digits_behind m cs d.1 in
    let digit = digit_is c d.0 in
    let front : m / 10 ≡ w = omega (arith, d.0) in
    let end : 48 + m % 10 ≡ c = omega (arith, d.0, digit.0, digit.2) in
    let cut : s / 10 ^ suc k ≡ s / 10 ^ k / 10 = rw pow-suc (sym (div-div-eq-div-mul s (10 ^ k) 10)) in
    record {
      whole = cut ∙ (ap (λ x. x / 10) more.whole ∙ front);
      last = first_of_last k s ∙ ((λ i. (48 + more.whole i % 10) ∷ more.last i) ∙ ap (λ x. x ∷ cs) end);
    }

-- ---- whole numbers

-- one to sixteen digits without a leading zero, or a single 0
pub record IsWholePart (digits : List ℕ) : Type 0 where
  pub is_digits : AllDigits 10 digits
  pub some : 0 < length digits
  pub short : length digits ≤ 16
  pub leads : get_or digits 0 0 ≡ 48 → length digits ≡ 1

short_small : (digits : List ℕ) → AllDigits 10 digits → (k : ℕ) → length digits ≤ k → digits_value 10 digits < 10 ^ k
short_small digits d k h =
    let least : 10 ^ length digits ≤ 10 ^ k = pow-le-pow_right (omega arith) h in
    omega (arith, digits_value-lt 10 digits d, least)

decimal_of_digits : (digits : List ℕ) → IsWholePart digits → decimal (digits_value 10 digits) ≡ digits
decimal_of_digits digits h = decimal-digits_value (numerals_by_value _ tells_digits) digits h.is_digits h.some h.leads (omega (arith, short_small digits h.is_digits 16 h.short))

-- the digits of n are those of `size`, which is not a multiple of ten, and at most `limit` zeros
record Zeros (limit n : ℕ) : Type 0 where
  size : ℕ
  zeros : ℕ
  below : size ≤ n
  few : zeros ≤ limit
  tenless : size % 10 ≡ 0 → ⊥
  is : decimal n ≡ decimal size ++ replicate zeros 48

ten_times : (f n : ℕ) → n % 10 ≡ 0 → 10 ≤ n → n < 10 ^ 16 → Zeros f (n / 10) → Zeros (suc f) n
ten_times f n z large wide r = record {
  size = r.size;
  zeros = suc r.zeros;
  below = omega (arith, r.below);
  few = omega (arith, r.few);
  tenless = r.tenless;
  is = decimal_step_wide n large (omega (arith, wide))
      ∙ ((λ i. r.is i ++ ((48 + z i) ∷ []))
      ∙ (append_assoc (decimal r.size) (replicate r.zeros 48) (48 ∷ [])
      ∙ ap (λ ds. decimal r.size ++ ds) (replicate_more r.zeros 48 ∙ ap (λ k. replicate k 48) (add-one r.zeros))));
}

zeros_of : (f n : ℕ) → 0 < n → n < 10 ^ f → n < 10 ^ 16 → Zeros f n
zeros_of zero n some h wide = absurd (omega (arith, h))
zeros_of (suc f) n some h wide = ⊎_elim
    (λ z. let large : 10 ≤ n = omega (arith, z, some) in
    let below : n / 10 < 10 ^ f = let p : n < 10 ^ f * 10 = rw pow-suc at h in omega (arith, z, p) in
    ten_times f n z large wide (zeros_of f (n / 10) (omega (arith, large)) below (omega (arith, wide))))
    (λ last. record { size = n; zeros = 0; below = omega arith; few = omega arith; tenless = last; is = sym (append-nil (decimal n)) })
    (cases_eq (n % 10) 0)

whole_above : (digits : List ℕ) → IsWholePart digits → (digits_value 10 digits ≡ 0 → ⊥) → IsAboveZero digits
unfolding plain_text
whole_above digits h some =
    let n = digits_value 10 digits in
    let small = short_small digits h.is_digits 16 h.short in
    let r = zeros_of 16 n (omega (arith, some)) small small in
    let below = r.below in
    let few = r.few in
    record {
      value = record {
        coefficient = pos r.size;
        exponent = pos r.zeros;
        small = omega (arith, below, small);
        low = omega (arith, ints);
        high = omega (arith, ints, few);
        tenless = λ z. absurd (r.tenless z);
      };
      passes = passes_positive r.size (λ z. r.tenless (ap (λ x. x % 10) z));
      is = sym (decimal_of_digits digits h) ∙ r.is;
    }

-- ---- a period among the digits

digits_append : (xs ys : List ℕ) → AllDigits 10 xs → AllDigits 10 ys → AllDigits 10 (xs ++ ys)
digits_append [] ys p q = q
digits_append (c ∷ xs) ys p q = (p.0, digits_append xs ys p.1 q)

digits_last : (xs : List ℕ) (c : ℕ) → AllDigits 10 (xs ++ (c ∷ [])) → digit_value c < 10
digits_last [] c p = p.0
digits_last (d ∷ xs) c p = digits_last xs c p.1

last_not_zero : (n : ℕ) (front : List ℕ) (c : ℕ) → AllDigits 10 (front ++ (c ∷ [])) → c ≢ 48 → digits_value_after 10 n (front ++ (c ∷ [])) % 10 ≡ 0 → ⊥
last_not_zero n front c d ends z =
    let digit = digit_is c (digits_last front c d) in
    let e : digits_value_after 10 n (front ++ (c ∷ [])) ≡ digits_value_after 10 n front * 10 + digit_value c = value_append n front (c ∷ []) in
    ends (omega (arith, e, z, digit.0, digit.1, digit.2))

fraction_above : (digits front : List ℕ) (c : ℕ) → IsWholePart digits → AllDigits 10 (front ++ (c ∷ [])) → c ≢ 48 → length front < 18 → IsAboveZero (digits ++ (46 ∷ (front ++ (c ∷ []))))
unfolding plain_text
fraction_above digits front c h d ends short =
    let fraction = front ++ (c ∷ []) in
    let w = digits_value 10 digits in
    let s = digits_value_after 10 w fraction in
    let k = length front in
    let count : length fraction ≡ suc k = omega (arith, length-append front (c ∷ [])) in
    let whole_short = h.short in
    let all_short : length (digits ++ fraction) ≤ 34 = omega (arith, length-append digits fraction, count, whole_short, short) in
    let small : digits_value 10 (digits ++ fraction) < 10 ^ 34 = short_small (digits ++ fraction) (digits_append digits fraction h.is_digits d) 34 all_short in
    let same : digits_value 10 (digits ++ fraction) ≡ s = value_append 0 digits fraction in
    let parts = digits_behind w fraction d in
    let last = last_not_zero w front c d ends in
    let whole : s / 10 ^ suc k ≡ w = ap (λ n. s / 10 ^ n) (sym count) ∙ parts.whole in
    let places : last_digits (suc k) s ≡ fraction = ap (λ n. last_digits n s) (sym count) ∙ parts.last in
    record {
      value = record {
        coefficient = pos s;
        exponent = negsuc k;
        small = rw same at small;
        low = omega (arith, ints, short);
        high = omega (arith, ints);
        tenless = λ z. absurd (last z);
      };
      passes = passes_positive s (λ z. last (ap (λ x. x % 10) z));
      is = sym (λ i. (ap decimal whole ∙ decimal_of_digits digits h) i ++ (46 ∷ places i));
    }

-- ---- the numbers that the functions read

above : (bytes text rest : List ℕ) → IsAboveZero bytes → text ≡ bytes ++ rest → ReadsFirst is_above_zero number_tree text rest
above bytes text rest r e = record { value = r.value; passes = r.passes; is = e ∙ ap (λ l. l ++ rest) r.is }

zero_part : IsWholePart (48 ∷ [])
zero_part = record { is_digits = (omega arith, tt); some = omega arith; short = omega arith; leads = λ e. refl }

pub below_one : {text digits rest : List ℕ} {period : ℕ} → text ≡ period ∷ digits → period ≡ 46 → ReadsFraction digits rest → ReadsFirst is_above_zero number_tree (48 ∷ text) rest
below_one {text} {digits} {rest} e p f =
    let fraction = f.front ++ (f.last ∷ []) in
    above (48 ∷ 46 ∷ fraction) (48 ∷ text) rest (fraction_above (48 ∷ []) f.front f.last zero_part f.is_digits f.ends f.short)
    (ap (λ (l : List ℕ). 48 ∷ l) (e ∙ (λ i. p i ∷ f.is i)))

same_first : (text whole rest : List ℕ) → text ≡ whole ++ rest → 0 < length whole → get_or whole 0 0 ≡ get_or text 0 0
same_first text [] rest e h = absurd (omega arith)
same_first text (c ∷ cs) rest e h = sym (ap (λ l. get_or l 0 0) e)

part_of : (text whole rest : List ℕ) → get_or text 0 0 ≢ 48 → CutsDigits text whole rest → 0 < length whole → length whole ≤ 16 → IsWholePart whole
part_of text whole rest first cut some short = record {
  is_digits = cut.is_digits;
  some = some;
  short = short;
  leads = λ e. absurd (first (sym (same_first text whole rest cut.is_text some) ∙ e));
}

not_zero : (text whole rest : List ℕ) → get_or text 0 0 ≢ 48 → CutsDigits text whole rest → 0 < length whole → length whole ≤ 16 → digits_value 10 whole ≡ 0 → ⊥
not_zero text whole rest first cut some short z =
    let digits : 48 ∷ [] ≡ whole = sym (decimal_digit 0 (omega arith)) ∙ (ap decimal (sym z) ∙ decimal_of_digits whole (part_of text whole rest first cut some short)) in
    first (sym (same_first text whole rest cut.is_text some) ∙ ap (λ l. get_or l 0 0) (sym digits))

pub from_one_whole : {text whole rest : List ℕ} → get_or text 0 0 ≢ 48 → CutsDigits text whole rest → 0 < length whole → length whole ≤ 16 → ReadsFirst is_above_zero number_tree text rest
from_one_whole {text} {whole} {rest} first cut some short =
    above whole text rest (whole_above whole (part_of text whole rest first cut some short) (not_zero text whole rest first cut some short)) cut.is_text

pub from_one_fraction : {text whole mid digits rest : List ℕ} {period : ℕ} → get_or text 0 0 ≢ 48 → CutsDigits text whole mid → 0 < length whole → length whole ≤ 16 → mid ≡ period ∷ digits → period ≡ 46 → ReadsFraction digits rest → ReadsFirst is_above_zero number_tree text rest
from_one_fraction {text} {whole} {mid} {digits} {rest} first cut some short e p f =
    let fraction = f.front ++ (f.last ∷ []) in
    above (whole ++ (46 ∷ fraction)) text rest (fraction_above whole f.front f.last (part_of text whole mid first cut some short) f.is_digits f.ends f.short)
    (cut.is_text ∙ (ap (λ l. whole ++ l) (e ∙ (λ i. p i ∷ f.is i)) ∙ sym (append_assoc whole (46 ∷ fraction) rest)))

pub zero_alone : (text : List ℕ) → ReadsFirst is_not_below_zero number_tree (48 ∷ text) text
unfolding plain_text
zero_alone text = record {
  value = record {
    coefficient = pos 0;
    exponent = pos 0;
    small = omega arith;
    low = omega (arith, ints);
    high = omega (arith, ints);
    tenless = λ z. (refl, refl);
  };
  passes = refl;
  is = ap (λ l. l ++ text) (sym (append-nil (decimal 0) ∙ decimal_digit 0 (omega arith)));
}

not_below : (c : ℤ) → is_positive c ≡ true → not (is_negative c) ≡ true
not_below (pos n) h = grind (arith, nat_tests)
not_below (negsuc n) h = cc

pub not_below_zero : {text rest : List ℕ} → ReadsFirst is_above_zero number_tree text rest → ReadsFirst is_not_below_zero number_tree text rest
not_below_zero r = record { value = r.value; passes = not_below r.value.coefficient r.passes; is = r.is }

negate_of : (c e : ℤ) → is_positive c ≡ true → unsigned_abs c < 10 ^ 34 → negsuc 39 ≤ℤ e → e ≤ℤ pos 40 → (unsigned_abs c % 10 ≡ 0 → (c ≡ pos 0) × (e ≡ pos 0)) → (n : Decimal) × (45 ∷ canonical c e ≡ canonical n.coefficient n.exponent)
negate_of (pos zero) e p small low high tenless = cc
negate_of (pos (suc k)) e p small low high tenless = (
  record {
    coefficient = negsuc k;
    exponent = e;
    small = small;
    low = low;
    high = high;
    tenless = λ z. let none = (tenless z).0 in absurd (omega (arith, ints, none));
  },
  refl,
)
negate_of (negsuc k) e p small low high tenless = cc

pub below_zero : {text mid rest : List ℕ} {first : ℕ} → text ≡ first ∷ mid → first ≡ 45 → ReadsFirst is_above_zero number_tree mid rest → ReadsFirst any number_tree text rest
below_zero {text} {mid} {rest} e p r =
    let d = r.value in
    let n = negate_of d.coefficient d.exponent r.passes d.small d.low d.high d.tenless in
    record {
      value = n.0;
      passes = refl;
      is = e ∙ ((λ i. p i ∷ r.is i) ∙ ap (λ l. l ++ rest) n.1);
    }
