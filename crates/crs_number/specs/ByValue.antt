-- The order of decimals by value, and that equal values are equal decimals.
use Rattle.std.proofs.Common.{◌≡◌, ℕ, suc, ◌*◌, ◌%◌, ◌^◌, Bool, true, false, ◌&&◌, ℤ, pos, negsuc, ◌*ℤ◌, ◌≤ℤ◌, ◌<ℤ◌, unsigned_abs, int_cmp, int_eq, is_eq, refl, sym, ap, ◌∙◌, ◌⊎◌, ⊎_elim, arith, zero-mul}
use Rattle.std.proofs.Math.Nat.{mul-pos}
use Rattle.std.proofs.lemmas.Int.{ints}
use Rattle.std.proofs.lemmas.Bool.{cases_eq}
use Rattle.std.proofs.lemmas.Bool.Decides.{same_from_decides, Decides-and, Decides-like, Decides-int_eq}
use Rattle.std.specs.Cmp.{ranked_equal, int_ranked}
use Rattle.crs_number.specs.declared.decimals.Decimal.{Decimal}
use Rattle.crs_number.specs.Value.{IsWhole, places, units}
use Rattle.crs_number.specs.Numeral.{signed}
use Rattle.crs_number.specs.Laws.{power_pos, sign_size, signed_times, ends_in_zero, not_zero, reduced_once}

-- no count is below zero, or has digits after the period
pub no_count : (c e : ℤ) (n : ℕ) → (unsigned_abs c % 10 ≡ 0 → (c ≡ pos 0) × (e ≡ pos 0)) → (c <ℤ pos 0) ⊎ (e <ℤ pos 0) → IsWhole c e (pos n) → ⊥
no_count (pos a) (pos k) n tenless bad h = ⊎_elim (λ l. omega (arith, ints, l)) (λ l. omega (arith, ints, l)) bad
no_count (negsuc a) (pos k) n tenless bad h = let m = mul-pos {m = suc a} {n = 10 ^ k} (omega arith) (power_pos k) in omega (arith, ints, h, m)
no_count c (negsuc k) n tenless bad h = let e = tenless (ends_in_zero (unsigned_abs c) n k (ap unsigned_abs h)) in omega (arith, ints, e.1)

-- whether the number has a minus
abbrev pub is_below_zero : ℤ → Bool
is_below_zero (pos a) = false
is_below_zero (negsuc a) = true

pub sign_of : (c : ℤ) → signed (is_below_zero c) (unsigned_abs c) ≡ c
sign_of (pos a) = refl
sign_of (negsuc a) = refl

units_size : (c : ℤ) (power : ℕ) → signed (is_below_zero c) (unsigned_abs c * power) ≡ c *ℤ pos power
units_size c power = signed_times (is_below_zero c) (unsigned_abs c) power ∙ ap (λ x. x *ℤ pos power) (sign_of c)

places_once : (d e : ℤ) → negsuc 39 ≤ℤ d → negsuc 39 ≤ℤ e → places d ≡ places e → d ≡ e
places_once (pos a) (pos b) l m h = omega (arith, ints, h)
places_once (pos a) (negsuc b) l m h = absurd (omega (arith, ints, h))
places_once (negsuc a) (pos b) l m h = absurd (omega (arith, ints, h))
places_once (negsuc a) (negsuc b) l m h = omega (arith, ints, l, m, h)

both_zero : (x y : Decimal) → unsigned_abs x.coefficient % 10 ≡ 0 → unsigned_abs y.coefficient % 10 ≡ 0 → (x.coefficient ≡ y.coefficient) × (x.exponent ≡ y.exponent)
both_zero x y p q = let a = x.tenless p in let b = y.tenless q in (a.0 ∙ sym b.0, a.1 ∙ sym b.1)

zero_and_some : (x y : Decimal) → unsigned_abs x.coefficient % 10 ≡ 0 → (unsigned_abs y.coefficient % 10 ≡ 0 → ⊥) → units x.coefficient x.exponent ≡ units y.coefficient y.exponent → ⊥
zero_and_some x y p q h =
    let power = 10 ^ places y.exponent in
    let some = not_zero (unsigned_abs y.coefficient) q in
    let m = mul-pos {m = unsigned_abs y.coefficient} {n = power} (omega (arith, some)) (power_pos (places y.exponent)) in
    let none : pos 0 ≡ units x.coefficient x.exponent = rw (x.tenless p).0 (ap pos (sym (zero-mul (10 ^ places x.exponent)))) in
    let size = sign_size false 0 y.coefficient power (power_pos (places y.exponent)) some (none ∙ h) in
    omega (arith, size.0, m)

both_some : (x y : Decimal) → (unsigned_abs x.coefficient % 10 ≡ 0 → ⊥) → (unsigned_abs y.coefficient % 10 ≡ 0 → ⊥) → units x.coefficient x.exponent ≡ units y.coefficient y.exponent → (x.coefficient ≡ y.coefficient) × (x.exponent ≡ y.exponent)
both_some x y p q h =
    let c = x.coefficient in
    let power = 10 ^ places y.exponent in
    let size = sign_size (is_below_zero c) (unsigned_abs c * 10 ^ places x.exponent) y.coefficient power (power_pos (places y.exponent)) (not_zero (unsigned_abs y.coefficient) q) (units_size c (10 ^ places x.exponent) ∙ h) in
    let same = reduced_once _ (unsigned_abs c) (places x.exponent) (unsigned_abs y.coefficient) (places y.exponent) refl size.0 p q in
    (sym (sign_of c) ∙ (ap (signed (is_below_zero c)) same.0 ∙ size.1), places_once x.exponent y.exponent x.low y.low same.1)

pub units_once : (x y : Decimal) → units x.coefficient x.exponent ≡ units y.coefficient y.exponent → (x.coefficient ≡ y.coefficient) × (x.exponent ≡ y.exponent)
units_once x y h = ⊎_elim
    (λ zero_x. ⊎_elim (λ zero_y. both_zero x y zero_x zero_y) (λ some_y. absurd (zero_and_some x y zero_x some_y h)) (cases_eq (unsigned_abs y.coefficient % 10) 0))
    (λ some_x. ⊎_elim (λ zero_y. absurd (zero_and_some y x zero_y some_x (sym h))) (λ some_y. both_some x y some_x some_y h) (cases_eq (unsigned_abs y.coefficient % 10) 0))
    (cases_eq (unsigned_abs x.coefficient % 10) 0)

-- `==` returns whether the values are equal
pub eq_by_value : (x y : Decimal) → (int_eq x.coefficient y.coefficient && int_eq x.exponent y.exponent) ≡ is_eq (int_cmp (units x.coefficient x.exponent) (units y.coefficient y.exponent))
eq_by_value x y =
    let u = units x.coefficient x.exponent in
    let v = units y.coefficient y.exponent in
    let fields = Decides-and (int_eq x.coefficient y.coefficient) (int_eq x.exponent y.exponent) (Decides-int_eq x.coefficient y.coefficient) (Decides-int_eq x.exponent y.exponent) in
    let to : (x.coefficient ≡ y.coefficient) × (x.exponent ≡ y.exponent) → u ≡ v = λ e. λ i. units (e.0 i) (e.1 i) in
    let from : u ≡ v → (x.coefficient ≡ y.coefficient) × (x.exponent ≡ y.exponent) = units_once x y in
    same_from_decides _ _ (Decides-like _ to from fields) (ranked_equal u v (int_cmp u v) (int_ranked u v _ refl))
