-- `is_numeral` decides whether a text has the form of a numeral, and `parts_in` finds the parts.
use Rattle.std.proofs.Common.{◌≡◌, ℕ, ◌+◌, ◌-◌, ◌<◌, Bool, true, false, ◌&&◌, ◌||◌, ◌==◌, if◌then◌else◌, List, [], ◌∷◌, ◌++◌, length, take, drop, refl, ap, ◌∙◌, inl, inr, ◌⊎◌, ⊎_elim, arith, append-nil, subst}
use Rattle.std.specs.Prelude.{nat_lt}
use Rattle.std.proofs.lemmas.Bool.{cases_eq, and_parts, and_from, ltb-true, eqb-true}
use Rattle.std.proofs.lemmas.Bool.Decides.{nat_tests}
use Rattle.std.proofs.lemmas.Grind.{common_steps}
use Rattle.std.proofs.lemmas.List.{nil_from_length}
use Rattle.crs_number.specs.Numeral.{Parts, IsPower, HasParts}
use Rattle.crs_number.specs.Reading.{is_sign_byte, is_period, CutsSign, CutsFraction}
use Rattle.crs_number.specs.Count.{begins_with_minus, behind_sign, digits_in, behind_digits, fraction_in, behind_fraction, is_power, power_in, parts_in, is_numeral}
use Rattle.crs_number.proofs.Cuts.{cuts_digits, front_once, power_refused}

sign_of_byte : (c : ℕ) → is_sign_byte c ≡ true → ((c ≡ 43) × ((c == 45) ≡ false)) ⊎ ((c ≡ 45) × ((c == 45) ≡ true))
sign_of_byte c h = ⊎_elim
    (λ plus. inl (plus, grind (arith, nat_tests)))
    (λ other. inr (grind (arith, nat_tests), grind (arith, nat_tests)))
    (cases_eq c 43)

sign_cons : (c : ℕ) (text : List ℕ) (b : Bool) → is_sign_byte c ≡ b → CutsSign (c ∷ text) (c == 45) (if b then text else c ∷ text)
sign_cons c text true e = record { sign = c ∷ []; is_sign = sign_of_byte c e; ends = tt; is_text = refl }
sign_cons c text false e = record { sign = []; is_sign = grind (arith, nat_tests); ends = e; is_text = refl }

pub cuts_sign : (text : List ℕ) → CutsSign text (begins_with_minus text) (behind_sign text)
cuts_sign [] = record { sign = []; is_sign = refl; ends = refl; is_text = refl }
cuts_sign (c ∷ text) = sign_cons c text _ refl

period_is : (c : ℕ) → is_period c ≡ true → c ≡ 46
period_is c h = grind (arith, nat_tests)

fraction_cons : (c : ℕ) (text : List ℕ) (b : Bool) → is_period c ≡ b → CutsFraction (c ∷ text) (if b then digits_in text else []) (if b then behind_digits text else c ∷ text)
fraction_cons c text true e =
    let w = cuts_digits text in
    record { point = c ∷ digits_in text; is_point = (period_is c e, refl, w.is_digits); ends = w.ends; is_text = ap (λ t. c ∷ t) w.is_text }
fraction_cons c text false e = record { point = []; is_point = refl; ends = e; is_text = refl }

pub cuts_fraction : (text : List ℕ) → CutsFraction text (fraction_in text) (behind_fraction text)
cuts_fraction [] = record { point = []; is_point = refl; ends = refl; is_text = refl }
cuts_fraction (c ∷ text) = fraction_cons c text _ refl

letter_is : (c : ℕ) → (c == 69 || c == 101) ≡ true → (c ≡ 69) ⊎ (c ≡ 101)
letter_is c h = ⊎_elim (λ e. inl e) (λ other. inr (grind (arith, nat_tests))) (cases_eq c 69)

letter_passes : (c : ℕ) → (c ≡ 69) ⊎ (c ≡ 101) → (c == 69 || c == 101) ≡ true
letter_passes c (inl e) = rw e refl
letter_passes c (inr e) = rw e refl

passes_some : (a b m n : ℕ) → a ≡ m → b ≡ n → 0 < m + n → nat_lt 0 (a + b) ≡ true
passes_some a b m n e f h = grind (arith, nat_tests)

ends_there : (digits rest text : List ℕ) → text ≡ digits ++ rest → (length rest == 0) ≡ true → text ≡ digits
ends_there digits rest text e h = e ∙ (ap (λ t. digits ++ t) (nil_from_length rest (eqb-true (length rest) 0 h)) ∙ append-nil digits)

power_from : (text : List ℕ) → is_power text ≡ true → IsPower text (begins_with_minus (drop 1 text)) (digits_in (behind_sign (drop 1 text)))
power_from [] h = (refl, refl)
power_from (c ∷ text) h =
    let unsigned = behind_sign text in
    let letter = and_parts _ _ h in
    let number = and_parts _ _ letter.1 in
    let s = cuts_sign text in
    let w = cuts_digits unsigned in (
      letter_is c letter.0,
      record {
        sign = s.sign;
        is_sign = s.is_sign;
        is_digits = (ltb-true 0 _ number.0, w.is_digits);
        is_text = s.is_text ∙ ap (λ t. s.sign ++ t) (ends_there (digits_in unsigned) (behind_digits unsigned) unsigned w.is_text number.1);
      },
    )

number_passes : (m n : ℕ) → (m ≡ 0 → ⊥) → (0 < n → ⊥) → nat_lt 0 m && n == 0 ≡ true
number_passes m n some none = grind (arith, nat_tests)

power_to : (text : List ℕ) (negative : Bool) (digits : List ℕ) → IsPower text negative digits → is_power text ≡ true
power_to [] negative digits h = refl
power_to (c ∷ text) negative digits h =
    let unsigned = behind_sign text in
    let all : text ≡ take (length (c ∷ text) - 1) text = grind (arith, common_steps) in
    let cut : CutsSign (take (length (c ∷ text) - 1) text) (begins_with_minus text) unsigned = subst (λ (t : List ℕ). CutsSign t (begins_with_minus text) unsigned) all (cuts_sign text) in
    let refused = λ (bad : (length (digits_in unsigned) ≡ 0) ⊎ (0 < length (behind_digits unsigned))). power_refused (c ∷ text) _ unsigned _ _ (omega arith) cut (cuts_digits unsigned) bad negative digits h in
    and_from _ _ (letter_passes c h.0) (number_passes (length (digits_in unsigned)) (length (behind_digits unsigned)) (λ none. refused (inl none)) (λ more. refused (inr more)))

-- a text that passes `is_numeral` has the parts that `parts_in` computes
pub parts_from : (text : List ℕ) → is_numeral text ≡ true → HasParts text (parts_in text)
unfolding is_numeral parts_in
parts_from text h =
    let unsigned = behind_sign text in
    let behind = behind_digits unsigned in
    let tests = and_parts _ _ h in
    let s = cuts_sign text in
    let w = cuts_digits unsigned in
    let f = cuts_fraction behind in
    record {
      sign = s.sign;
      point = f.point;
      power = power_in text;
      is_sign = s.is_sign;
      is_whole = w.is_digits;
      is_point = f.is_point;
      is_power = power_from (power_in text) tests.0;
      has_digits = ltb-true 0 _ tests.1;
      is_text = s.is_text ∙ ap (λ t. s.sign ++ t) (w.is_text ∙ ap (λ t. digits_in unsigned ++ t) f.is_text);
    }

-- a text that has the parts of a numeral passes `is_numeral`
pub parts_to : (text : List ℕ) (parts : Parts) → HasParts text parts → is_numeral text ≡ true
unfolding is_numeral parts_in
parts_to text parts form =
    let unsigned = behind_sign text in
    let behind = behind_digits unsigned in
    let front = front_once text _ unsigned _ behind _ _ (cuts_sign text) (cuts_digits unsigned) (cuts_fraction behind) parts form in
    and_from _ _
    (rw front.rest_is (power_to form.power parts.exponent_negative parts.exponent form.is_power))
    (passes_some _ _ _ _ (ap length front.whole_is) (ap length front.fraction_is) form.has_digits)
