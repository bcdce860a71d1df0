-- Whole tens of degrees as decimals, and the texts of points.
use Rattle.std.proofs.Common.{◌≡◌, ℕ, ◌*◌, ◌%◌, ◌^◌, ◌<◌, ◌≤◌, Bool, ℤ, pos, ◌-ℤ◌, List, take, drop, Option, Some, None, Result, Ok, Err, refl, sym, ap, subst, ◌∙◌, inr, arith, mul_assoc}
use Rattle.std.specs.Option.{IsSomeAnd}
use Rattle.std.specs.List.{prefix_len}
use Rattle.crs_number.specs.declared.decimals.Decimal.{Decimal}
use Rattle.crs_number.specs.declared.decimals.NumberFault.{NumberFault}
use Rattle.crs_number.specs.Numeral.{signed, IsNormalForm, IsInRange, Spells}
use Rattle.crs_number.specs.Laws.{signed_times, abs_signed}
use Rattle.crs_number.specs.Value.{units}
use Rattle.crs_value.specs.declared.search.point.Point.{Point}
use Rattle.crs_value.specs.Points.{is_no_comma, behind_comma, Names}

-- the units of a decimal
abbrev pub Has : ℤ → Decimal → Type 0
Has n d = units d.coefficient d.exponent ≡ units n (pos 0)

tens_units : (negative : Bool) (tens : ℕ) → units (signed negative tens) (pos 1) ≡ units (signed negative (tens * 10)) (pos 0)
tens_units negative tens =
    sym (signed_times negative tens (10 ^ 41))
    ∙ ap (signed negative) (sym (mul_assoc tens 10 (10 ^ 40)))
    ∙ signed_times negative (tens * 10) (10 ^ 40)

abbrev pub Found : Bool → ℕ → Option Decimal → Type 0
Found negative tens answer = tens * 10 < 10 ^ 18 → 0 ≤ 100 → (c e : ℤ) → IsNormalForm (signed negative (tens * 10)) (pos 0 -ℤ pos 0) c e → IsInRange c e
    → IsSomeAnd answer (λ d. (d.coefficient ≡ c) × (d.exponent ≡ e))

is_tens : (negative : Bool) (tens : ℕ) (answer : Option Decimal) → IsSomeAnd answer (λ d. (d.coefficient ≡ signed negative tens) × (d.exponent ≡ pos 1)) → IsSomeAnd answer (Has (signed negative (tens * 10)))
is_tens negative tens None h = h
is_tens negative tens (Some d) h = ap (λ c. units c d.exponent) h.0 ∙ ap (units (signed negative tens)) h.1 ∙ tens_units negative tens

pub limit_is : (negative : Bool) (tens : ℕ) (answer : Option Decimal) → tens ≤ 99 → (tens % 10 ≡ 0 → ⊥) → Found negative tens answer → IsSomeAnd answer (Has (signed negative (tens * 10)))
limit_is negative tens answer few last found =
    let size = abs_signed negative tens in
    let normal : IsNormalForm (signed negative (tens * 10)) (pos 0 -ℤ pos 0) (signed negative tens) (pos 1) =
    inr (λ e. last (ap (λ n. n % 10) (sym size) ∙ e), (1, signed_times negative tens 10, refl)) in
    is_tens negative tens answer (found (omega (arith, few)) (omega arith) (signed negative tens) (pos 1) normal
    (record { small = omega (arith, size, few); low = omega arith; high = omega arith }))

-- ---- the numerals in a text that names a point

pub latitude_of : (text front : List ℕ) (n : ℕ) (p : Point) → front ≡ take n text → n ≡ prefix_len is_no_comma text → Names text p → Spells front p.latitude.coefficient p.latitude.exponent
latitude_of text front n p f e h = subst (λ (t : List ℕ). Spells t p.latitude.coefficient p.latitude.exponent) (sym (f ∙ ap (λ k. take k text) e)) h.0

pub longitude_of : (text rest back : List ℕ) (n : ℕ) (p : Point) → rest ≡ drop n text → n ≡ prefix_len is_no_comma text → back ≡ behind_comma rest → Names text p
    → Spells back p.longitude.coefficient p.longitude.exponent
longitude_of text rest back n p r e b h =
    subst (λ (t : List ℕ). Spells t p.longitude.coefficient p.longitude.exponent) (sym (b ∙ ap behind_comma (r ∙ ap (λ k. drop k text) e))) h.1

pub same_point : (a b : Decimal) (p : Point) → a ≡ p.latitude → b ≡ p.longitude → record { latitude = a; longitude = b } ≡ p
same_point a b p e f = ap (λ (x : Decimal). record { latitude = x; longitude = b }) e ∙ ap (λ (x : Decimal). record { latitude = p.latitude; longitude = x }) f

-- a decimal is read once
pub read_once : (answer : Result Decimal NumberFault) (d e : Decimal) → answer ≡ Ok d → answer ≡ Ok e → d ≡ e
read_once answer d e h g = let same : Ok d ≡ Ok e = sym h ∙ g in cc same

pub not_read : (answer : Result Decimal NumberFault) (f : NumberFault) (d : Decimal) → answer ≡ Err f → answer ≡ Ok d → ⊥
not_read answer f d h g = let same : Err f ≡ Ok d = sym h ∙ g in cc same
