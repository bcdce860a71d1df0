-- Canonical numerals have digits, and are numbers of JSON.
use Rattle.std.proofs.Common.{◌≡◌, ℕ, zero, suc, ◌+◌, ◌/◌, ◌%◌, ◌^◌, ◌<◌, ◌≤◌, Bool, true, false, cond, ◌==◌, List, [], ◌∷◌, ◌++◌, length, drop, replicate, decimal, ℤ, pos, negsuc, unsigned_abs, Some, None, option_and_then, refl, sym, ap, ◌∙◌, inl, inr, ◌⊎◌, arith, append-nil, length-append, subst, pow-suc}
use Rattle.std.proofs.Math.Nat.{div-le_self}
use Rattle.std.proofs.Math.Seq.{drop-append_seam}
use Rattle.std.proofs.lemmas.Bool.{cases_lt, cases_eq, ne_eqb, and_parts}
use Rattle.std.proofs.lemmas.Bool.Decides.{nat_tests}
use Rattle.std.proofs.lemmas.Fmt.{decimal_step_wide, decimal_digit}
use Rattle.std.proofs.lemmas.List.Folds.{list_all-append}
use Rattle.std.specs.Char.{is_ascii_digit}
use Rattle.std.specs.List.{prefix_len, list_all}
use Rattle.json.specs.Word.{head, after_digits, after_whole, after_fraction, after_exponent, after_number}
use Rattle.json.specs.Print.{IsNumber}
use Rattle.crs_number.specs.declared.decimals.Decimal.{Decimal}
use Rattle.crs_number.specs.Canonical.{last_digits, minus_of, plain_text, canonical}

-- ---- digits

abbrev pub are_digits : List ℕ → Bool
are_digits ds = list_all is_ascii_digit ds

a_digit : (n : ℕ) → n < 10 → is_ascii_digit (48 + n) ≡ true
a_digit n h = grind (arith, nat_tests)

pub digits_both : (xs ys : List ℕ) → are_digits xs ≡ true → are_digits ys ≡ true → are_digits (xs ++ ys) ≡ true
digits_both xs ys h k = list_all-append is_ascii_digit xs ys ∙ rw (h, k) refl

pub zeros : (k : ℕ) → are_digits (replicate k 48) ≡ true
zeros zero = refl
zeros (suc k) = zeros k

pub last_are : (k n : ℕ) → are_digits (last_digits k n) ≡ true
last_are zero n = refl
last_are (suc k) n =
    let small : n % 10 < 10 = omega arith in
    digits_both (last_digits k (n / 10)) ((48 + n % 10) ∷ []) (last_are k (n / 10)) (rw (a_digit (n % 10) small) refl)

-- digits that begin with no zero
record Begun (ds : List ℕ) : Type 0 where
  first : ℕ
  others : List ℕ
  is : ds ≡ first ∷ others
  digit : is_ascii_digit first ≡ true
  no_zero : (first == 48) ≡ false
  no_minus : (first == 45) ≡ false
  are : are_digits others ≡ true

one_digit : (n : ℕ) → 0 < n → n < 10 → Begun (decimal n)
one_digit n some h = record {
  first = 48 + n;
  others = [];
  is = decimal_digit n h;
  digit = a_digit n h;
  no_zero = ne_eqb (48 + n) 48 (λ e. omega arith);
  no_minus = ne_eqb (48 + n) 45 (λ e. omega arith);
  are = refl;
}

begun_more : (ds more : List ℕ) → Begun ds → are_digits more ≡ true → Begun (ds ++ more)
begun_more ds more b h = record {
  first = b.first;
  others = b.others ++ more;
  is = ap (λ l. l ++ more) b.is;
  digit = b.digit;
  no_zero = b.no_zero;
  no_minus = b.no_minus;
  are = digits_both b.others more b.are h;
}

begun_step : (n : ℕ) → 0 < n → n < 10 ^ 64 → (10 ≤ n → Begun (decimal (n / 10))) → (n < 10) ⊎ (10 ≤ n) → Begun (decimal n)
begun_step n some wide front (inl h) = one_digit n some h
begun_step n some wide front (inr h) =
    let small : n % 10 < 10 = omega arith in
    rw (decimal_step_wide n h wide) (begun_more (decimal (n / 10)) ((48 + n % 10) ∷ []) (front h) (rw (a_digit (n % 10) small) refl))

less : (k n : ℕ) → n < 10 ^ suc k → n / 10 < 10 ^ k
less k n h = let power = pow-suc 10 k in omega (arith, power)

begun : (k n : ℕ) → 0 < n → n < 10 ^ k → n < 10 ^ 64 → Begun (decimal n)
begun zero n some small wide = absurd (omega arith)
begun (suc k) n some small wide = begun_step n some wide (λ h. begun k (n / 10) (omega arith) (less k n small) (omega arith)) (cases_lt n 10)

-- a digit, and others
pub record Starts (ds : List ℕ) : Type 0 where
  pub first : ℕ
  pub others : List ℕ
  pub is : ds ≡ first ∷ others

begun_digits : (ds : List ℕ) → Begun ds → are_digits ds ≡ true
begun_digits ds b = ap are_digits b.is ∙ rw (b.digit, b.are) refl

zero_or_not : (n : ℕ) → n < 10 ^ 34 → (n ≡ 0) ⊎ (n ≡ 0 → ⊥) → (are_digits (decimal n) ≡ true) × Starts (decimal n)
zero_or_not n small (inl e) =
    let is : decimal n ≡ 48 ∷ [] = ap decimal e ∙ decimal_digit 0 (omega arith) in
    (ap are_digits is, record { first = 48; others = []; is = is })
zero_or_not n small (inr some) =
    let b = begun 34 n (omega arith) small (omega arith) in
    (begun_digits (decimal n) b, record { first = b.first; others = b.others; is = b.is })

pub decimal_digits : (n : ℕ) → n < 10 ^ 34 → are_digits (decimal n) ≡ true
decimal_digits n small = (zero_or_not n small (cases_eq n 0)).0

pub decimal_starts : (n : ℕ) → n < 10 ^ 34 → Starts (decimal n)
decimal_starts n small = (zero_or_not n small (cases_eq n 0)).1

-- ---- the parts of a number

-- what is after digits begins with no digit
abbrev Stops : List ℕ → Type 0
Stops rest = prefix_len is_ascii_digit rest ≡ 0

prefix_is : (ds rest : List ℕ) → are_digits ds ≡ true → Stops rest → prefix_len is_ascii_digit (ds ++ rest) ≡ length ds
prefix_is [] rest h stops = stops
prefix_is (d ∷ ds) rest h stops =
    let both = and_parts (is_ascii_digit d) (are_digits ds) h in
    let rest_is = prefix_is ds rest both.1 stops in
    rw both.0 (omega (arith, rest_is))

past_digits : (d : ℕ) (ds rest : List ℕ) → are_digits (d ∷ ds) ≡ true → Stops rest → after_digits ((d ∷ ds) ++ rest) ≡ Some rest
past_digits d ds rest h stops =
    let n = prefix_is (d ∷ ds) rest h stops in
    ap (λ m. cond (m == 0) None (Some (drop m ((d ∷ ds) ++ rest)))) n
    ∙ ap (λ b. cond b None (Some (drop (length (d ∷ ds)) ((d ∷ ds) ++ rest)))) (ne_eqb (suc (length ds)) 0 (λ e. omega arith)) ∙ ap Some (drop-append_seam (d ∷ ds) rest)

-- digits before a rest are the whole part of a number
record Whole (ds rest : List ℕ) : Type 0 where
  after : after_whole (ds ++ rest) ≡ Some rest
  no_minus : (head (ds ++ rest) == 45) ≡ false

whole_zero : (rest : List ℕ) → Whole (48 ∷ []) rest
whole_zero rest = record { after = refl; no_minus = refl }

whole_some : (d : ℕ) (ds rest : List ℕ) → (d == 48) ≡ false → (d == 45) ≡ false → are_digits (d ∷ ds) ≡ true → Stops rest → Whole (d ∷ ds) rest
whole_some d ds rest z m h stops = record { after = rw z (past_digits d ds rest h stops); no_minus = m }

whole_begun : (ds rest : List ℕ) → Begun ds → Stops rest → Whole ds rest
whole_begun ds rest b stops =
    subst (λ l. Whole l rest) (sym b.is) (whole_some b.first b.others rest b.no_zero b.no_minus (rw (b.digit, b.are) refl) stops)

whole_decimal : (n : ℕ) (rest : List ℕ) → n < 10 ^ 34 → Stops rest → (n ≡ 0) ⊎ (n ≡ 0 → ⊥) → Whole (decimal n) rest
whole_decimal n rest small stops (inl e) = subst (λ l. Whole l rest) (sym (ap decimal e ∙ decimal_digit 0 (omega arith))) (whole_zero rest)
whole_decimal n rest small stops (inr some) = whole_begun (decimal n) rest (begun 34 n (omega arith) small (omega arith)) stops

-- a numeral without a sign
record Plain (text : List ℕ) : Type 0 where
  whole : List ℕ
  rest : List ℕ
  is : text ≡ whole ++ rest
  is_whole : Whole whole rest
  fraction : after_fraction rest ≡ Some []

fraction_is : (n k : ℕ) → after_fraction (46 ∷ last_digits (suc k) n) ≡ Some []
fraction_is n k = go (last_digits (suc k) n) (last_are (suc k) n) (length_last k n)
  where
    length_last : (k n : ℕ) → 0 < length (last_digits (suc k) n)
    length_last k n = omega (arith, length-append (last_digits k (n / 10)) ((48 + n % 10) ∷ []))

    go : (ds : List ℕ) → are_digits ds ≡ true → 0 < length ds → after_fraction (46 ∷ ds) ≡ Some []
    go [] h some = absurd (omega arith)
    go (d ∷ ds) h some = ap after_digits (sym (append-nil (d ∷ ds))) ∙ past_digits d ds [] h refl

plain_whole : (n k : ℕ) → n < 10 ^ 34 → (n ≡ 0 → pos k ≡ pos 0) → (n ≡ 0) ⊎ (n ≡ 0 → ⊥) → Plain (plain_text n (pos k))
unfolding plain_text
plain_whole n k small zero_is (inl e) =
    subst Plain (λ j. plain_text (sym e j) (sym (zero_is e) j)) (record {
      whole = decimal 0 ++ [];
      rest = [];
      is = sym (append-nil (decimal 0 ++ []));
      is_whole = subst (λ l. Whole l []) (sym (append-nil (decimal 0) ∙ decimal_digit 0 (omega arith))) (whole_zero []);
      fraction = refl;
    })
plain_whole n k small zero_is (inr some) = record {
  whole = decimal n ++ replicate k 48;
  rest = [];
  is = sym (append-nil (decimal n ++ replicate k 48));
  is_whole = whole_begun (decimal n ++ replicate k 48) [] (begun_more (decimal n) (replicate k 48) (begun 34 n (omega arith) small (omega arith)) (zeros k)) refl;
  fraction = refl;
}

plain : (n : ℕ) (e : ℤ) → n < 10 ^ 34 → (n ≡ 0 → e ≡ pos 0) → Plain (plain_text n e)
unfolding plain_text
plain n (pos k) small zero_is = plain_whole n k small zero_is (cases_eq n 0)
plain n (negsuc k) small zero_is = record {
  whole = decimal (n / 10 ^ suc k);
  rest = 46 ∷ last_digits (suc k) n;
  is = refl;
  is_whole = whole_decimal (n / 10 ^ suc k) (46 ∷ last_digits (suc k) n) (omega (arith, div-le_self n (10 ^ suc k))) refl (cases_eq (n / 10 ^ suc k) 0);
  fraction = fraction_is n k;
}

plain_number : (text : List ℕ) → Plain text → IsNumber text
unfolding after_number
plain_number text p =
    subst IsNumber (sym p.is)
    (ap (λ b. option_and_then after_exponent (option_and_then after_fraction (after_whole (cond b (drop 1 (p.whole ++ p.rest)) (p.whole ++ p.rest))))) p.is_whole.no_minus
    ∙ ap (λ o. option_and_then after_exponent (option_and_then after_fraction o)) p.is_whole.after ∙ ap (option_and_then after_exponent) p.fraction)

minus_number : (text : List ℕ) → Plain text → IsNumber (45 ∷ text)
unfolding after_number
minus_number text p =
    subst (λ t. IsNumber (45 ∷ t)) (sym p.is)
    (ap (λ o. option_and_then after_exponent (option_and_then after_fraction o)) p.is_whole.after ∙ ap (option_and_then after_exponent) p.fraction)

signed_number : (c : ℤ) (text : List ℕ) → Plain text → IsNumber (minus_of c ++ text)
signed_number (pos n) text p = plain_number text p
signed_number (negsuc n) text p = minus_number text p

no_digit : (n : ℕ) → n ≡ 0 → n % 10 ≡ 0
no_digit n e = rw e refl

-- a canonical numeral is a number of JSON
pub is_number : (d : Decimal) → IsNumber (canonical d.coefficient d.exponent)
is_number d =
    let n = unsigned_abs d.coefficient in
    signed_number d.coefficient (plain_text n d.exponent) (plain n d.exponent d.small (λ e. (d.tenless (no_digit n e)).1))
