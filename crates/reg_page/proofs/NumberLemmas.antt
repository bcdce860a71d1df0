-- Codes that are numbers are in the order of their values.
use Rattle.std.proofs.Common.{◌≡◌, ℕ, suc, ◌+◌, ◌-◌, ◌*◌, ◌<◌, ◌≤◌, ◌==◌, Bool, true, false, List, [], ◌∷◌, length, nat_le, nat_lt, cond, if◌then◌else◌, refl, sym, ap, ◌∙◌, arith}
use Rattle.std.proofs.lemmas.Bool.Decides.{nat_tests}
use Rattle.std.proofs.lemmas.Bool.{eqb-true, and_parts}
use Rattle.std.specs.declared.cmp.Ordering.{Ordering}
use Rattle.std.specs.declared.cmp.Ordering.TheVariants.{Less, Equal, Greater}
use Rattle.std.specs.Ordering.{nat_cmp, ordering_then}
use Rattle.std.specs.Cmp.Lexicographic.{slice_cmp}
use Rattle.reg_page.specs.Codes.{is_digit, is_number, without_zeros, number_after, number_of, code_cmp}

digit_bounds : (b : ℕ) → is_digit b ≡ true → (48 ≤ b) × (b ≤ 57)
digit_bounds b e = let parts = and_parts (nat_le 48 b) (nat_le b 57) e in (grind (arith, nat_tests, parts.0), grind (arith, nat_tests, parts.1))

-- of two lists of as many digits, the one after the lesser number writes the lesser number
after_less : (n m : ℕ) (ds es : List ℕ) → is_number ds ≡ true → is_number es ≡ true → length ds ≡ length es → n < m → number_after n ds < number_after m es
after_less n m [] [] p q e h = h
after_less n m [] (b ∷ es) p q e h = absurd (omega arith)
after_less n m (a ∷ ds) [] p q e h = absurd (omega arith)
after_less n m (a ∷ ds) (b ∷ es) p q e h =
    let first = and_parts (is_digit a) (is_number ds) p in
    let second = and_parts (is_digit b) (is_number es) q in
    let low = digit_bounds a first.0 in
    let high = digit_bounds b second.0 in
    after_less (n * 10 + (a - 48)) (m * 10 + (b - 48)) ds es first.1 second.1 (omega arith) (omega (arith, low.0, low.1, high.0, high.1))

-- fewer digits write a lesser number, if a number above 0 is before the others
fewer : (n : ℕ) (ds es : List ℕ) → is_number ds ≡ true → is_number es ≡ true → length ds ≤ length es → 0 < n → number_after 0 ds < number_after n es
fewer n ds [] p q h some = after_less 0 n ds [] p q (omega arith) some
fewer n ds (b ∷ es) p q h some =
    elim (length ds == suc (length es)) as (λ t. (length ds == suc (length es)) ≡ t → number_after 0 ds < number_after n (b ∷ es)) [
      | true ↦ λ e. after_less 0 n ds (b ∷ es) p q (eqb-true (length ds) (suc (length es)) e) some
      | false ↦ λ e.
          let less : length ds ≤ length es = grind (arith, nat_tests) in
          fewer (n * 10 + (b - 48)) ds es p (and_parts (is_digit b) (is_number es) q).1 less (omega arith)
    ] refl

abbrev Ordered : Ordering → ℕ → ℕ → Type 0
Ordered Less a b = a < b
Ordered Equal a b = a ≡ b
Ordered Greater a b = b < a

by_first : (n a b : ℕ) (ds es : List ℕ) (s t : Bool) → nat_lt a b ≡ s → (a == b) ≡ t → is_digit a ≡ true → is_digit b ≡ true → is_number ds ≡ true → is_number es ≡ true → length ds ≡ length es
    → ((m : ℕ) → Ordered (slice_cmp nat_cmp ds es) (number_after m ds) (number_after m es))
    → Ordered (ordering_then (cond s Less (cond t Equal Greater)) (slice_cmp nat_cmp ds es)) (number_after (n * 10 + (a - 48)) ds) (number_after (n * 10 + (b - 48)) es)
by_first n a b ds es true t s_is t_is p q u v e later =
    let x = digit_bounds a p in
    let y = digit_bounds b q in
    let less : a < b = grind (arith, nat_tests) in
    after_less (n * 10 + (a - 48)) (n * 10 + (b - 48)) ds es u v e (omega (arith, x.0, y.0))
by_first n a b ds es false true s_is t_is p q u v e later =
    let same : a ≡ b = eqb-true a b t_is in
    let here = later (n * 10 + (a - 48)) in
    let moved : number_after (n * 10 + (a - 48)) es ≡ number_after (n * 10 + (b - 48)) es = ap (λ c. number_after (n * 10 + (c - 48)) es) same in
    rw (← moved) here
by_first n a b ds es false false s_is t_is p q u v e later =
    let x = digit_bounds a p in
    let y = digit_bounds b q in
    let less : b < a = grind (arith, nat_tests) in
    after_less (n * 10 + (b - 48)) (n * 10 + (a - 48)) es ds v u (sym e) (omega (arith, x.0, y.0))

-- lists of as many digits are in the order of the numbers that they write
ordered : (n : ℕ) (ds es : List ℕ) → is_number ds ≡ true → is_number es ≡ true → length ds ≡ length es → Ordered (slice_cmp nat_cmp ds es) (number_after n ds) (number_after n es)
ordered n [] [] p q e = refl
ordered n [] (b ∷ es) p q e = absurd (omega arith)
ordered n (a ∷ ds) [] p q e = absurd (omega arith)
ordered n (a ∷ ds) (b ∷ es) p q e =
    let first = and_parts (is_digit a) (is_number ds) p in
    let second = and_parts (is_digit b) (is_number es) q in
    let rest : length ds ≡ length es = omega arith in
    by_first n a b ds es (nat_lt a b) (a == b) refl refl first.0 second.0 first.1 second.1 rest (λ m. ordered m ds es first.1 second.1 rest)

-- ---- without zeros at the front

zeros_at : (b : ℕ) (bs : List ℕ) (t : Bool) → (b == 48) ≡ t → number_after 0 (without_zeros bs) ≡ number_after 0 bs → number_after 0 (if t then without_zeros bs else b ∷ bs) ≡ number_after (0 * 10 + (b - 48)) bs
zeros_at b bs true is same = let zero : b ≡ 48 = eqb-true b 48 is in same ∙ ap (λ c. number_after (0 * 10 + (c - 48)) bs) (sym zero)
zeros_at b bs false is same = refl

same_number : (bs : List ℕ) → number_of (without_zeros bs) ≡ number_of bs
same_number [] = refl
same_number (b ∷ bs) = zeros_at b bs (b == 48) refl (same_number bs)

digits_at : (b : ℕ) (bs : List ℕ) (t : Bool) → is_number (b ∷ bs) ≡ true → is_number (without_zeros bs) ≡ true → is_number (if t then without_zeros bs else b ∷ bs) ≡ true
digits_at b bs true p q = q
digits_at b bs false p q = p

still_digits : (bs : List ℕ) → is_number bs ≡ true → is_number (without_zeros bs) ≡ true
still_digits [] p = refl
still_digits (b ∷ bs) p = digits_at b bs (b == 48) p (still_digits bs (and_parts (is_digit b) (is_number bs) p).1)

longer_at : (ds bs : List ℕ) (b : ℕ) (t : Bool) → (b == 48) ≡ t → is_number ds ≡ true → is_number (b ∷ bs) ≡ true → (length ds < length (without_zeros bs) → number_of ds < number_of (without_zeros bs))
    → length ds < length (if t then without_zeros bs else b ∷ bs) → number_of ds < number_of (if t then without_zeros bs else b ∷ bs)
longer_at ds bs b true is p q later h = later h
longer_at ds bs b false is p q later h =
    let parts = and_parts (is_digit b) (is_number bs) q in
    let bounds = digit_bounds b parts.0 in
    let some : 48 < b = grind (arith, nat_tests, bounds.0) in
    fewer (0 * 10 + (b - 48)) ds bs p parts.1 (omega arith) (omega arith)

-- fewer digits write a lesser number than others without a zero at their front
longer : (ds bs : List ℕ) → is_number ds ≡ true → is_number bs ≡ true → length ds < length (without_zeros bs) → number_of ds < number_of (without_zeros bs)
longer ds [] p q h = absurd (omega arith)
longer ds (b ∷ bs) p q h = longer_at ds bs b (b == 48) refl p q (longer ds bs p (and_parts (is_digit b) (is_number bs) q).1) h

-- ---- the order of codes

by_digits : (o last : Ordering) (a b : ℕ) → Ordered o a b → a < b → ordering_then o last ≡ Less
by_digits Less last a b h less = refl
by_digits Equal last a b h less = absurd (omega arith)
by_digits Greater last a b h less = absurd (omega arith)

by_length : (xs ys : List ℕ) (last : Ordering) (s t : Bool) → nat_lt (length (without_zeros xs)) (length (without_zeros ys)) ≡ s → (length (without_zeros xs) == length (without_zeros ys)) ≡ t
    → is_number xs ≡ true → is_number ys ≡ true → number_of xs < number_of ys
    → ordering_then (cond s Less (cond t Equal Greater)) (ordering_then (slice_cmp nat_cmp (without_zeros xs) (without_zeros ys)) last) ≡ Less
by_length xs ys last true t s_is t_is p q h = refl
by_length xs ys last false true s_is t_is p q h =
    by_digits (slice_cmp nat_cmp (without_zeros xs) (without_zeros ys)) last (number_of (without_zeros xs)) (number_of (without_zeros ys))
    (ordered 0 (without_zeros xs) (without_zeros ys) (still_digits xs p) (still_digits ys q) (eqb-true (length (without_zeros xs)) (length (without_zeros ys)) t_is))
    (rw (same_number xs, same_number ys) h)
by_length xs ys last false false s_is t_is p q h =
    let fewer_digits : length (without_zeros ys) < length (without_zeros xs) = grind (arith, nat_tests) in
    let other = longer (without_zeros ys) xs (still_digits ys q) p fewer_digits in
    absurd (omega (arith, other, same_number xs, same_number ys))

pub in_order : (a b : List ℕ) → is_number a ≡ true → is_number b ≡ true → number_of a < number_of b → code_cmp a b ≡ Less
in_order a b p q h = rw (p, q) (by_length a b (slice_cmp nat_cmp a b) (nat_lt (length (without_zeros a)) (length (without_zeros b))) (length (without_zeros a) == length (without_zeros b)) refl refl p q h)
