-- Names, numbers and texts are tokens.
use Rattle.std.proofs.Common.{◌≡◌, ℕ, ◌+◌, ◌%◌, ◌<◌, ◌^◌, Bool, true, false, Some, List, [], ◌∷◌, ◌++◌, length, decimal, refl, sym, ap, ◌∙◌, subst, ⊎_elim, arith, ℤ, pos, unsigned_abs}
use Rattle.std.specs.List.{list_all, AllPass}
use Rattle.std.specs.Str.Parse.{AllDigits}
use Rattle.std.specs.Char.{is_ascii_alphabetic, is_ascii_digit, digit_value}
use Rattle.std.proofs.lemmas.Bool.{and_parts}
use Rattle.std.proofs.lemmas.Bool.Decides.{nat_tests}
use Rattle.std.proofs.lemmas.List.Elements.{All-nil, All-cons, All-append, All-tail}
use Rattle.std.proofs.lemmas.List.Sums.{AllPass-from_list_all}
use Rattle.std.proofs.lemmas.Str.{IsUtf8-from_is_utf8}
use Rattle.crs_number.specs.declared.decimals.Decimal.{Decimal}
use Rattle.crs_number.specs.Canonical.{canonical}
use Rattle.crs_number.specs.Numeral.{IsSign, IsFraction, IsPower, IsNormalForm, number_of, exponent_of, Spells}
use Rattle.crs_number.proofs.Spelled.{canonical_spells}
use Rattle.crs_number.proofs.CountLemmas.{decimal_spells}
use Rattle.crs_part.specs.declared.text.Text.{Text}
use Rattle.wkt_tree.specs.declared.token.TokenKind.TheVariants.{Word, Number}
use Rattle.wkt_tree.specs.Bytes.{is_word_byte, is_number_byte, begun_by}
use Rattle.wkt_tree.specs.Tokens.{IsNumber, quoted}
use Rattle.wkt_write.specs.WellFormed.{IsToken, IsText, is_name}

begun : (b : ℕ) → is_ascii_alphabetic b ≡ true → begun_by b ≡ Some Word
unfolding begun_by
begun b h = rw h refl

pub word_token : (b : List ℕ) → is_name b ≡ true → IsToken Word b
word_token [] h = absurd (cc)
word_token (b ∷ bs) h =
    let parts = and_parts (is_ascii_alphabetic b) (list_all is_word_byte bs) h in
    record { first = b; others = bs; parts = refl; begun = begun b parts.0; follow = AllPass-from_list_all is_word_byte bs parts.1; readable = tt }

pub text_is : (t : Text) → IsText (quoted t.bytes)
text_is t = record { content = t.bytes; is = refl; utf8 = IsUtf8-from_is_utf8 t.bytes t.utf8 }

-- ---- numerals

digit_is : (c : ℕ) → digit_value c < 10 → is_ascii_digit c ≡ true
digit_is c h = grind (arith, nat_tests)

not_letter : (c : ℕ) → digit_value c < 10 → is_ascii_alphabetic c ≡ false
not_letter c h = grind (arith, nat_tests)

begun_digit : (c : ℕ) → digit_value c < 10 → begun_by c ≡ Some Number
unfolding begun_by
begun_digit c h = rw (not_letter c h, digit_is c h) refl

begun_plus : begun_by 43 ≡ Some Number
unfolding begun_by
begun_plus = refl

begun_minus : begun_by 45 ≡ Some Number
unfolding begun_by
begun_minus = refl

begun_point : begun_by 46 ≡ Some Number
unfolding begun_by
begun_point = refl

-- the byte may be a part of a number
abbrev pub Passes : ℕ → Type 0
Passes b = is_number_byte b ≡ true

digits_pass : (xs : List ℕ) → AllDigits 10 xs → AllPass is_number_byte xs
digits_pass [] d = All-nil Passes
digits_pass (x ∷ xs) d = All-cons Passes x xs (rw (digit_is x d.0) refl) (digits_pass xs d.1)

sign_passes : (sign : List ℕ) (n : Bool) → IsSign sign n → AllPass is_number_byte sign
sign_passes [] n s = All-nil Passes
sign_passes (c ∷ []) n s = All-cons Passes c [] (⊎_elim (λ p. rw p.0 refl) (λ m. rw m.0 refl) s) (All-nil Passes)
sign_passes (c ∷ d ∷ r) n s = absurd s

point_passes : (point digits : List ℕ) → IsFraction point digits → AllPass is_number_byte point
point_passes [] digits p = All-nil Passes
point_passes (c ∷ r) digits p = All-cons Passes c r (rw p.0 refl) (digits_pass r (subst (AllDigits 10) (sym p.1) p.2))

power_passes : (power : List ℕ) (n : Bool) (digits : List ℕ) → IsPower power n digits → AllPass is_number_byte power
power_passes [] n digits p = All-nil Passes
power_passes (c ∷ r) n digits p =
    All-cons Passes c r (⊎_elim (λ a. rw a refl) (λ b. rw b refl) p.0)
    (subst (AllPass is_number_byte) (sym p.1.is_text) (All-append Passes p.1.sign digits (sign_passes p.1.sign n p.1.is_sign) (digits_pass digits p.1.is_digits.1)))

-- the bytes have a first byte, and it begins a number
record Begins (b : List ℕ) : Type 0 where
  pub first : ℕ
  pub others : List ℕ
  pub parts : b ≡ first ∷ others
  pub begun : begun_by first ≡ Some Number

begins_from : (sign whole point power fraction : List ℕ) (n : Bool) → IsSign sign n → AllDigits 10 whole → IsFraction point fraction → 0 < length whole + length fraction → Begins (sign ++ (whole ++ (point ++ power)))
begins_from (c ∷ d ∷ r) whole point power fraction n s w p h = absurd s
begins_from (c ∷ []) whole point power fraction n s w p h = record { first = c; others = whole ++ (point ++ power); parts = refl; begun = ⊎_elim (λ x. rw x.0 begun_plus) (λ x. rw x.0 begun_minus) s }
begins_from [] (d ∷ whole) point power fraction n s w p h = record { first = d; others = whole ++ (point ++ power); parts = refl; begun = begun_digit d w.0 }
begins_from [] [] (c ∷ r) power fraction n s w p h = record { first = c; others = r ++ power; parts = refl; begun = rw p.0 begun_point }
begins_from [] [] [] power fraction n s w p h = absurd (omega (arith, ap length p))

-- ---- the decimal that a text spells

pub zero_only : (z x c e : ℤ) → IsNormalForm z x c e → unsigned_abs c % 10 ≡ 0 → (c ≡ pos 0) × (e ≡ pos 0)
zero_only z x c e n t = ⊎_elim (λ h. (h.1, h.2)) (λ h. absurd (h.0 t)) n

abbrev pub spelled : (text : List ℕ) (c e : ℤ) → Spells text c e → Decimal
spelled text c e s = record {
  coefficient = c;
  exponent = e;
  small = s.value.in_range.small;
  low = s.value.in_range.low;
  high = s.value.in_range.high;
  tenless = zero_only (number_of s.parts) (exponent_of s.parts) c e s.value.normal;
}

pub is_number : (text : List ℕ) (c e : ℤ) → Spells text c e → IsNumber text
is_number text c e s = (spelled text c e s, s)

-- bytes that spell a decimal are a number token
pub numeral_token : (b : List ℕ) (c e : ℤ) → Spells b c e → IsToken Number b
numeral_token b c e s =
    let f = s.form in
    let begins = begins_from f.sign s.parts.whole f.point f.power s.parts.fraction s.parts.negative f.is_sign f.is_whole f.is_point f.has_digits in
    let all : AllPass is_number_byte (begins.first ∷ begins.others) = subst (AllPass is_number_byte) begins.parts
    (All-append Passes f.sign _ (sign_passes f.sign s.parts.negative f.is_sign)
    (All-append Passes s.parts.whole _ (digits_pass s.parts.whole f.is_whole)
    (All-append Passes f.point f.power (point_passes f.point s.parts.fraction f.is_point) (power_passes f.power s.parts.exponent_negative s.parts.exponent f.is_power)))) in
    record { first = begins.first; others = begins.others; parts = f.is_text ∙ begins.parts; begun = begins.begun; follow = All-tail Passes begins.first begins.others all; readable = is_number b c e s }

pub number_token : (d : Decimal) → IsToken Number (canonical d.coefficient d.exponent)
number_token d = numeral_token _ d.coefficient d.exponent (canonical_spells d)

pub count_token : (n : ℕ) → n < 2 ^ 32 → IsToken Number (decimal n)
count_token n h = let s = decimal_spells n h in numeral_token (decimal n) s.coefficient s.exponent s.spells
