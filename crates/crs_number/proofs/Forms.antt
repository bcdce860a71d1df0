-- The bytes of a text that has the form of a numeral.
use Rattle.std.proofs.Common.{◌≡◌, ℕ, ◌+◌, ◌<◌, Bool, true, false, List, [], ◌∷◌, ◌++◌, length, refl, sym, ap, subst, arith, inl, inr}
use Rattle.std.specs.Prelude.{◌⊎◌}
use Rattle.std.specs.Char.{digit_value}
use Rattle.std.specs.List.{AllPass}
use Rattle.std.specs.Str.Parse.{AllDigits}
use Rattle.std.proofs.lemmas.Bool.Decides.{nat_tests}
use Rattle.std.proofs.lemmas.List.Elements.{All-nil, All-cons, All-append}
use Rattle.crs_number.specs.Bytes.{begins_numeral, is_numeral_byte, HasNumeralBytes}
use Rattle.crs_number.specs.Numeral.{IsSign, IsFraction, IsPower, HasForm}

abbrev InNumeral : ℕ → Type 0
InNumeral b = is_numeral_byte b ≡ true

-- ---- all bytes

digit_begins : (b : ℕ) → digit_value b < 10 → begins_numeral b ≡ true
digit_begins b h = grind (arith, nat_tests)

begins_in : (b : ℕ) → begins_numeral b ≡ true → InNumeral b
begins_in b h = grind (arith, nat_tests)

letter_in : (b : ℕ) → (b ≡ 69) ⊎ (b ≡ 101) → InNumeral b
letter_in b (inl e) = grind (arith, nat_tests)
letter_in b (inr e) = grind (arith, nat_tests)

sign_begins : (b : ℕ) (n : Bool) → ((b ≡ 43) × (n ≡ false)) ⊎ ((b ≡ 45) × (n ≡ true)) → begins_numeral b ≡ true
sign_begins b n (inl e) = let h = e.0 in grind (arith, nat_tests)
sign_begins b n (inr e) = let h = e.0 in grind (arith, nat_tests)

point_begins : (b : ℕ) → b ≡ 46 → begins_numeral b ≡ true
point_begins b e = grind (arith, nat_tests)

digits_in : (ds : List ℕ) → AllDigits 10 ds → AllPass is_numeral_byte ds
digits_in [] h = All-nil InNumeral
digits_in (b ∷ ds) h = All-cons InNumeral b ds (begins_in b (digit_begins b h.0)) (digits_in ds h.1)

sign_in : (s : List ℕ) (n : Bool) → IsSign s n → AllPass is_numeral_byte s
sign_in [] n h = All-nil InNumeral
sign_in (b ∷ []) n h = All-cons InNumeral b [] (begins_in b (sign_begins b n h)) (All-nil InNumeral)
sign_in (b ∷ c ∷ s) n h = absurd h

point_in : (p digits : List ℕ) → IsFraction p digits → AllPass is_numeral_byte p
point_in [] digits h = All-nil InNumeral
point_in (b ∷ p) digits h = All-cons InNumeral b p (begins_in b (point_begins b h.0)) (digits_in p (subst (λ l. AllDigits 10 l) (sym h.1) h.2))

power_in : (p : List ℕ) (n : Bool) (digits : List ℕ) → IsPower p n digits → AllPass is_numeral_byte p
power_in [] n digits h = All-nil InNumeral
power_in (b ∷ p) n digits h =
    let w = h.1 in
    All-cons InNumeral b p (letter_in b h.0)
    (subst (λ l. AllPass is_numeral_byte l) (sym w.is_text) (All-append InNumeral w.sign digits (sign_in w.sign n w.is_sign) (digits_in digits w.is_digits.1)))

-- ---- the first byte

record Begun (text : List ℕ) : Type 0 where
  first : ℕ
  others : List ℕ
  is : text ≡ first ∷ others
  begins : begins_numeral first ≡ true

begun_by_point : (point power fraction : List ℕ) → IsFraction point fraction → 0 < length fraction → Begun (point ++ power)
begun_by_point [] power fraction h some = absurd (omega (arith, some, ap length h))
begun_by_point (b ∷ point) power fraction h some = record { first = b; others = point ++ power; is = refl; begins = point_begins b h.0 }

begun_by_digits : (whole point power fraction : List ℕ) → AllDigits 10 whole → IsFraction point fraction → 0 < length whole + length fraction → Begun (whole ++ (point ++ power))
begun_by_digits [] point power fraction w h some = begun_by_point point power fraction h (omega (arith, some))
begun_by_digits (b ∷ whole) point power fraction w h some = record { first = b; others = whole ++ (point ++ power); is = refl; begins = digit_begins b w.0 }

begun_by_sign : (sign rest : List ℕ) (n : Bool) → IsSign sign n → Begun rest → Begun (sign ++ rest)
begun_by_sign [] rest n h g = g
begun_by_sign (b ∷ []) rest n h g = record { first = b; others = rest; is = refl; begins = sign_begins b n h }
begun_by_sign (b ∷ c ∷ sign) rest n h g = absurd h

has_bytes : (text : List ℕ) → Begun text → AllPass is_numeral_byte text → HasNumeralBytes text
has_bytes text g all = subst (λ l. HasNumeralBytes l) (sym g.is) (g.begins, subst (λ l. AllPass is_numeral_byte l) g.is all)

pub form_bytes : (text : List ℕ) → HasForm text → HasNumeralBytes text
form_bytes text h =
    let p = h.0 in
    let f = h.1 in
    let rest = f.point ++ f.power in
    let tail = All-append InNumeral f.point f.power (point_in f.point p.fraction f.is_point) (power_in f.power p.exponent_negative p.exponent f.is_power) in
    let behind = All-append InNumeral p.whole rest (digits_in p.whole f.is_whole) tail in
    let all = All-append InNumeral f.sign (p.whole ++ rest) (sign_in f.sign p.negative f.is_sign) behind in
    subst (λ l. HasNumeralBytes l) (sym f.is_text)
    (has_bytes (f.sign ++ (p.whole ++ rest)) (begun_by_sign f.sign (p.whole ++ rest) p.negative f.is_sign (begun_by_digits p.whole f.point f.power p.fraction f.is_whole f.is_point f.has_digits)) all)
