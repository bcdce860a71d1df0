-- A numeral of few digits without a power spells a decimal.
use Rattle.std.proofs.Common.{◌≡◌, ℕ, zero, suc, ◌+◌, ◌*◌, ◌/◌, ◌%◌, ◌^◌, ◌<◌, ◌≤◌, Bool, true, false, List, [], ◌∷◌, ◌++◌, length, ℤ, pos, ◌+ℤ◌, ◌-ℤ◌, refl, sym, ap, ◌∙◌, subst, arith, inl, inr, ⊎_elim, mul-one, pow-suc, length-append}
use Rattle.std.specs.Prelude.{◌⊎◌}
use Rattle.std.specs.Str.Parse.{AllDigits, digits_value}
use Rattle.std.proofs.Math.Nat.{mul-le-mul_left, pow-le-pow_right}
use Rattle.std.proofs.lemmas.Bool.{cases_eq}
use Rattle.std.proofs.lemmas.Int.{ints}
use Rattle.std.proofs.lemmas.Int.Digits.{digits_value-lt}
use Rattle.crs_number.specs.declared.decimals.Decimal.{Decimal}
use Rattle.crs_number.specs.Laws.{power_pos, tens, abs_signed}
use Rattle.crs_number.specs.Numeral.{Parts, IsFraction, HasParts, Spells, IsNormalForm, signed, number_of}
use Rattle.crs_number.proofs.Powers.{digits_append}
use Rattle.crs_number.proofs.Normal.{normal_found}

-- n is `size`, which is not a multiple of ten, followed by at most `limit` zeros
record Reduced (limit n : ℕ) : Type 0 where
  size : ℕ
  zeros : ℕ
  few : zeros ≤ limit
  number : n ≡ size * 10 ^ zeros
  tenless : size % 10 ≡ 0 → ⊥

one_more : (f n m : ℕ) → n ≡ m * 10 → (m ≡ 0) ⊎ Reduced f m → (n ≡ 0) ⊎ Reduced (suc f) n
one_more f n m e (inl z) = inl (omega (arith, e, z))
one_more f n m e (inr r) = inr (record {
  size = r.size;
  zeros = suc r.zeros;
  few = omega (arith, r.few);
  number = e ∙ (ap (λ x. x * 10) r.number ∙ sym (tens r.size r.zeros));
  tenless = r.tenless;
})

reduce : (f n : ℕ) → n < 10 ^ f → (n ≡ 0) ⊎ Reduced f n
reduce zero n h = inl (omega (arith, h))
reduce (suc f) n h = ⊎_elim
    (λ z. let below : n / 10 < 10 ^ f = let p : n < 10 ^ f * 10 = rw pow-suc at h in omega (arith, z, p) in
    let e : n ≡ n / 10 * 10 = omega (arith, z) in
    one_more f n (n / 10) e (reduce f (n / 10) below))
    (λ some. inr (record { size = n; zeros = 0; few = omega arith; number = sym (mul-one n); tenless = some }))
    (cases_eq (n % 10) 0)

-- a decimal that is the normal form of n times ten to the x, with the sign
record Found (negative : Bool) (n : ℕ) (x : ℤ) : Type 0 where
  decimal : Decimal
  normal : IsNormalForm (signed negative n) x decimal.coefficient decimal.exponent

signed_zero : (negative : Bool) (n : ℕ) → n ≡ 0 → signed negative n ≡ pos 0
signed_zero false n e = ap pos e
signed_zero true n e = ap (λ k. signed true k) e

size_below : (n size zeros : ℕ) → n < 10 ^ 34 → n ≡ size * 10 ^ zeros → size < 10 ^ 34
size_below n size zeros h e = omega (arith, h, e, mul-one size, mul-le-mul_left size (power_pos zeros))

found : (negative : Bool) (n f : ℕ) → n < 10 ^ 34 → f ≤ 34 → Found negative n (pos 0 -ℤ pos f)
found negative n f h short = ⊎_elim
    (λ z. record {
      decimal = record {
        coefficient = pos 0;
        exponent = pos 0;
        small = omega arith;
        low = omega (arith, ints);
        high = omega (arith, ints);
        tenless = λ t. (refl, refl);
      };
      normal = inl (signed_zero negative n z, refl, refl);
    })
    (λ r. record {
      decimal = record {
        coefficient = signed negative r.size;
        exponent = pos 0 -ℤ pos f +ℤ pos r.zeros;
        small = omega (arith, abs_signed negative r.size, size_below n r.size r.zeros h r.number);
        low = omega (arith, ints, short);
        high = omega (arith, ints, r.few);
        tenless = λ t. absurd (r.tenless (ap (λ k. k % 10) (sym (abs_signed negative r.size)) ∙ t));
      };
      normal = subst (λ k. IsNormalForm (signed negative k) (pos 0 -ℤ pos f) (signed negative r.size) (pos 0 -ℤ pos f +ℤ pos r.zeros)) (sym r.number)
          (normal_found negative r.size r.zeros (pos 0 -ℤ pos f) (signed negative r.size) (pos 0 -ℤ pos f +ℤ pos r.zeros) r.tenless refl refl);
    })
    (reduce 34 n h)

digits_of : (text digits : List ℕ) → IsFraction text digits → AllDigits 10 digits
digits_of [] digits h = subst (λ l. AllDigits 10 l) (sym h) tt
digits_of (c ∷ text) digits h = h.2

no_power : (negative : Bool) (digits : List ℕ) (k : ℕ) → digits ≡ [] → signed negative (digits_value 10 digits) -ℤ pos k ≡ pos 0 -ℤ pos k
no_power false digits k e = ap (λ l. pos (digits_value 10 l) -ℤ pos k) e
no_power true digits k e = ap (λ l. signed true (digits_value 10 l) -ℤ pos k) e

pub small_spells : (text : List ℕ) (parts : Parts) → HasParts text parts → length parts.whole + length parts.fraction ≤ 34 → parts.exponent ≡ [] → length text ≤ 100 → (d : Decimal) × Spells text d.coefficient d.exponent
small_spells text parts h few none short =
    let digits = parts.whole ++ parts.fraction in
    let all = digits_append parts.whole parts.fraction h.is_whole (digits_of h.point parts.fraction h.is_point) in
    let shorter : length digits ≤ 34 = omega (arith, length-append parts.whole parts.fraction, few) in
    let least : 10 ^ length digits ≤ 10 ^ 34 = pow-le-pow_right (omega arith) shorter in
    let below : digits_value 10 digits < 10 ^ 34 = omega (arith, digits_value-lt 10 digits all, least) in
    let d = found parts.negative (digits_value 10 digits) (length parts.fraction) below (omega (arith, few)) in (
      d.decimal,
      record {
        parts = parts;
        form = h;
        value = record {
          normal = subst (λ x. IsNormalForm (number_of parts) x d.decimal.coefficient d.decimal.exponent) (sym (no_power parts.exponent_negative parts.exponent (length parts.fraction) none)) d.normal;
          short_exponent = omega (arith, ap length none);
          in_range = record { small = d.decimal.small; low = d.decimal.low; high = d.decimal.high };
        };
        short = short;
      },
    )
