-- `is_count` decides whether a text is a count, and a text spells at most one whole number.
use Rattle.std.proofs.Common.{subst, ◌≡◌, ℕ, suc, ◌*◌, ◌/◌, ◌%◌, ◌^◌, ◌<◌, ◌≤◌, Bool, true, false, List, [], ◌++◌, length, decimal, ℤ, pos, negsuc, unsigned_abs, Option, Some, None, IfSome, Ok, Err, refl, sym, ap, ◌∙◌, inl, inr, arith, append-nil, mul-one}
use Rattle.std.specs.Prelude.{is_some}
use Rattle.std.specs.Str.Parse.{AllDigits, digits_value}
use Rattle.std.proofs.Math.Nat.{mul-div_cancel, pow-le-pow_right}
use Rattle.std.proofs.lemmas.Bool.{and_parts, and_from, leb-true, le-leb}
use Rattle.std.proofs.lemmas.Int.{ints}
use Rattle.std.proofs.lemmas.Int.Digits.{digits_value-lt}
use Rattle.std.proofs.lemmas.Fmt.{decimal_is_IsNumeral, length-decimal-le}
use Rattle.crs_number.specs.declared.decimals.Decimal.{Decimal}
use Rattle.crs_number.specs.declared.decimals.NumberFault.{NumberFault}
use Rattle.crs_number.specs.Numeral.{Parts, HasParts, IsNormalForm, Spells, number_of, exponent_of}
use Rattle.crs_number.specs.Value.{IsWhole}
use Rattle.crs_number.specs.Laws.{power_pos}
use Rattle.crs_number.specs.Count.{SpellsWhole, IsCount, parts_in, is_count}
use Rattle.crs_number.proofs.Values.{value_of_form}
use Rattle.crs_number.proofs.CountTexts.{parts_from, parts_to}
use Rattle.crs_number.proofs.Once.{spells_once}
use Rattle.crs_number.proofs.CountValues.{whole_from_normal, count_at_from, count_at_to, normal_of_count}

-- a text with these parts spells n if their value is n, n is below 2 ^ 32, and the text and its exponent are short enough
spells_from : (text : List ℕ) (parts : Parts) → HasParts text parts → length text ≤ 100 → length parts.exponent ≤ 4 → (n : ℕ) → n < 2 ^ 32 → IsWhole (number_of parts) (exponent_of parts) (pos n) → SpellsWhole text n
spells_from text parts form short short_exponent n small whole =
    let normal = normal_of_count (number_of parts) (exponent_of parts) n small whole in
    record {
      coefficient = normal.coefficient;
      exponent = normal.exponent;
      spells = record {
        parts = parts;
        form = form;
        value = record { normal = normal.normal; short_exponent = short_exponent; in_range = normal.in_range };
        short = short;
      };
      whole = normal.whole;
    }

-- a text that passes `is_count` is a count
pub count_from : (text : List ℕ) → is_count text ≡ true → IsCount text
unfolding is_count
count_from text h =
    let form = and_parts _ _ h in
    let short = and_parts _ _ form.1 in
    let value = and_parts _ _ short.1 in
    let at = count_at_from (number_of (parts_in text)) (exponent_of (parts_in text)) value.1 in
    record {
      count = at.count;
      spelled = spells_from text (parts_in text) (parts_from text form.0) (leb-true _ _ short.0) (leb-true _ _ value.0) at.count at.small at.whole;
      small = at.small;
    }

-- a count passes `is_count`
pub count_to : (text : List ℕ) → IsCount text → is_count text ≡ true
unfolding is_count
count_to text h =
    let spells = h.spelled.spells in
    let numeral = parts_to text spells.parts spells.form in
    let parts = parts_in text in
    let value = value_of_form text parts h.spelled.coefficient h.spelled.exponent (parts_from text numeral) spells in
    let whole = whole_from_normal (number_of parts) (exponent_of parts) h.spelled.coefficient h.spelled.exponent h.count value.normal h.spelled.whole in
    and_from _ _ numeral (and_from _ _ (le-leb _ _ spells.short) (and_from _ _ (le-leb _ _ value.short_exponent) (count_at_to _ _ h.count whole h.small)))

-- ---- a text spells at most one whole number

whole_once : (c e : ℤ) (m n : ℕ) → IsWhole c e (pos m) → IsWhole c e (pos n) → m ≡ n
whole_once c (pos k) m n h g = omega (arith, ints, h ∙ sym g)
whole_once c (negsuc k) m n h g =
    let p = 10 ^ suc k in
    let same : m * p ≡ n * p = omega (arith, ints, sym h ∙ g) in
    sym (mul-div_cancel m (power_pos (suc k))) ∙ (ap (λ x. x / p) same ∙ mul-div_cancel n (power_pos (suc k)))

-- two whole numbers that a text spells are equal
pub count_once : (text : List ℕ) (m n : ℕ) → SpellsWhole text m → SpellsWhole text n → m ≡ n
count_once text m n s t =
    let same = spells_once text s.coefficient t.coefficient s.exponent t.exponent s.spells t.spells in
    whole_once t.coefficient t.exponent m n (rw (same.0, same.1) at s.whole) t.whole

-- ---- texts that consist of digits

digits_parts : List ℕ → Parts
digits_parts text = record { negative = false; whole = text; fraction = []; exponent_negative = false; exponent = [] }

digits_form : (text : List ℕ) → AllDigits 10 text → 0 < length text → HasParts text (digits_parts text)
unfolding digits_parts
digits_form text digits some = record {
  sign = [];
  point = [];
  power = [];
  is_sign = refl;
  is_whole = digits;
  is_point = refl;
  is_power = (refl, refl);
  has_digits = omega (arith, some);
  is_text = sym (append-nil text);
}

digits_whole : (text : List ℕ) → IsWhole (number_of (digits_parts text)) (exponent_of (digits_parts text)) (pos (digits_value 10 text))
unfolding digits_parts
digits_whole text =
    let value : digits_value 10 (text ++ []) ≡ digits_value 10 text = ap (digits_value 10) (append-nil text) in
    ap pos (sym (mul-one (digits_value 10 (text ++ [])) ∙ value))

digits_spell : (text : List ℕ) → AllDigits 10 text → 0 < length text → length text ≤ 100 → digits_value 10 text < 2 ^ 32 → SpellsWhole text (digits_value 10 text)
unfolding digits_parts
digits_spell text digits some short small =
    spells_from text (digits_parts text) (digits_form text digits some) short (omega arith) (digits_value 10 text) small (digits_whole text)

few_digits : (n : ℕ) → n ≤ 9 → 10 ^ n ≤ 10 ^ 9
few_digits n h = pow-le-pow_right (omega arith) h

-- a text of one to nine digits is a count
pub digits_count : (text : List ℕ) → AllDigits 10 text → 0 < length text → length text ≤ 9 → is_count text ≡ true
digits_count text digits some short =
    let below = digits_value-lt 10 text digits in
    let few = few_digits (length text) short in
    let small : digits_value 10 text < 2 ^ 32 = omega (arith, below, few) in
    count_to text (record { count = digits_value 10 text; spelled = digits_spell text digits some (omega (arith, short)) small; small = small })

-- ---- the decimal text of a count

pub decimal_spells : (n : ℕ) → n < 2 ^ 32 → SpellsWhole (decimal n) n
decimal_spells n h =
    let numeral = decimal_is_IsNumeral n (omega (arith, h)) in
    let some = numeral.0.0 in
    let short = length-decimal-le 10 n (omega arith) (omega (arith, h)) (omega (arith, h)) in
    subst (SpellsWhole (decimal n)) numeral.1 (digits_spell (decimal n) numeral.0.1 (omega (arith, some)) (omega (arith, short)) (rw numeral.1 h))

pub decimal_is_count : (n : ℕ) → n < 2 ^ 32 → is_count (decimal n) ≡ true
decimal_is_count n h = count_to (decimal n) (record { count = n; spelled = decimal_spells n h; small = h })

-- ---- the result of reading a numeral decides whether it is a count

zero_only : (z x c e : ℤ) → IsNormalForm z x c e → unsigned_abs c % 10 ≡ 0 → (c ≡ pos 0) × (e ≡ pos 0)
zero_only z x c e (inl h) t = (h.1, h.2)
zero_only z x c e (inr h) t = absurd (h.0 t)

decimal_of : (text : List ℕ) (c e : ℤ) → Spells text c e → Decimal
decimal_of text c e s = record {
  coefficient = c;
  exponent = e;
  small = s.value.in_range.small;
  low = s.value.in_range.low;
  high = s.value.in_range.high;
  tenless = zero_only (number_of s.parts) (exponent_of s.parts) c e s.value.normal;
}

not_count : (text : List ℕ) (b : Bool) → is_count text ≡ b → (IsCount text → ⊥) → false ≡ b
not_count text true e h = absurd (h (count_from text e))
not_count text false e h = refl

-- a text that spells no decimal is not a count
pub refused_count : (text : List ℕ) (fault : NumberFault) → ((d : Decimal) → Spells text d.coefficient d.exponent → Err fault ≡ Ok d) → false ≡ is_count text
unfolding decimal_of
refused_count text fault only = not_count text (is_count text) refl (λ h.
    let s = h.spelled in
    let found : Err fault ≡ Ok (decimal_of text s.coefficient s.exponent s.spells) = only (decimal_of text s.coefficient s.exponent s.spells) s.spells in
    cc)

-- a text that spells d is a count exactly if o is `Some`, where o is the whole number below 2 ^ 32 that d equals, if any
pub counted : (text : List ℕ) (d : Decimal) (o : Option ℕ) → Spells text d.coefficient d.exponent → IfSome o (λ n. n < 2 ^ 32) → IfSome o (λ n. IsWhole d.coefficient d.exponent (pos n)) → ((n : ℕ) → n < 2 ^ 32 → IsWhole d.coefficient d.exponent (pos n) → o ≡ Some n) → is_some o ≡ is_count text
counted text d (Some n) s small whole only =
    sym (count_to text (record { count = n; spelled = record { coefficient = d.coefficient; exponent = d.exponent; spells = s; whole = whole }; small = small }))
counted text d None s small whole only = not_count text (is_count text) refl (λ h.
    let same = spells_once text h.spelled.coefficient d.coefficient h.spelled.exponent d.exponent h.spelled.spells s in
    let found : None ≡ Some h.count = only h.count h.small (rw (same.0, same.1) at h.spelled.whole) in
    cc)
