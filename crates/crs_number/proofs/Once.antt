-- A text spells at most one decimal.
use Rattle.std.proofs.Common.{◌≡◌, ℕ, ◌*◌, ◌%◌, ◌^◌, Bool, List, ◌++◌, ℤ, unsigned_abs, sym, ap, ◌∙◌, subst, arith, ⊎_elim, zero-mul}
use Rattle.std.specs.Str.Parse.{digits_value}
use Rattle.std.proofs.lemmas.Bool.{cases_eq}
use Rattle.crs_number.specs.Numeral.{Parts, HasValue, Spells, IsNormalForm, signed, exponent_of}
use Rattle.crs_number.proofs.Cuts.{parts_once}
use Rattle.crs_number.proofs.Normal.{normal_zero, normal_once, normal_reduced}

-- two normal forms of a number are equal
pub normal_same : (negative : Bool) (n : ℕ) (x c d e f : ℤ) → IsNormalForm (signed negative n) x c e → IsNormalForm (signed negative n) x d f → (c ≡ d) × (e ≡ f)
normal_same negative n x c d e f one other = ⊎_elim
    (λ z. let a = normal_zero negative n x c e z one in let b = normal_zero negative n x d f z other in (sym a.0 ∙ b.0, sym a.1 ∙ b.1))
    (λ some.
    let r = normal_reduced negative n x c e (omega (arith, some)) one in
    let tenless : unsigned_abs c % 10 ≡ 0 → ⊥ = λ t. some (r.1.number ∙ (ap (λ u. u * 10 ^ r.0) (r.1.tenless t).0 ∙ zero-mul (10 ^ r.0))) in
    let a = normal_once negative n (unsigned_abs c) r.0 x c e r.1.number tenless one in
    let b = normal_once negative n (unsigned_abs c) r.0 x d f r.1.number tenless other in
    (sym a.0 ∙ b.0, sym a.1 ∙ b.1))
    (cases_eq n 0)

pub spells_once : (text : List ℕ) (c d e f : ℤ) → Spells text c e → Spells text d f → (c ≡ d) × (e ≡ f)
spells_once text c d e f one other =
    let p = one.parts in
    let v : HasValue p d f = subst (λ (q : Parts). HasValue q d f) (parts_once text other.parts p other.form one.form) other.value in
    normal_same p.negative (digits_value 10 (p.whole ++ p.fraction)) (exponent_of p) c d e f one.value.normal v.normal
