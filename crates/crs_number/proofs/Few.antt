-- Numbers of few digits.
use Rattle.std.proofs.Common.{◌≡◌, ℕ, ◌+◌, ◌*◌, ◌/◌, ◌%◌, ◌^◌, ◌<◌, ◌≤◌, List, ◌++◌, length, length-append, sym, ap, ◌∙◌, subst, arith, mul_assoc, mul_comm}
use Rattle.std.specs.Str.Parse.{AllDigits, digits_value, digits_value_after}
use Rattle.std.proofs.lemmas.Int.Digits.{digits_value-lt}
use Rattle.std.proofs.Math.Nat.{pow-le-pow_right}
use Rattle.crs_number.proofs.Powers.{ten_more, power_grows, value_append, digits_append}

-- a number from 1 to 10 ^ 18 - 1 ends in fewer than 18 zeros
few_zeros : (c z n : ℕ) → 0 < c → c * 10 ^ z ≡ n → n < 10 ^ 18 → 18 ≤ z → ⊥
few_zeros c z n some is small more = omega (arith, some, is, small, power_grows c 18 z more)

pub record Stripped (c z n : ℕ) : Type 0 where
  pub some : 0 < c / 10
  pub zeros : z + 1 ≤ 18
  pub number : c / 10 * 10 ^ (z + 1) ≡ n

-- if c is a multiple of ten, one zero can be moved from c to the power of ten
pub stripped : (c z n : ℕ) → 0 < c → c % 10 ≡ 0 → c * 10 ^ z ≡ n → n < 10 ^ 18 → z ≤ 18 → Stripped c z n
stripped c z n some last is small zeros =
    let q = c / 10 in
    let whole : q * 10 ≡ c = omega (arith, last) in
    record {
      some = omega (arith, some, last);
      zeros = omega (arith, zeros, few_zeros c z n some is small);
      number = ten_more q z ∙ (mul_assoc q (10 ^ z) 10 ∙ (ap (λ x. q * x) (mul_comm (10 ^ z) 10) ∙ (sym (mul_assoc q 10 (10 ^ z)) ∙ (ap (λ x. x * 10 ^ z) whole ∙ is))));
    }

pub few_alone : (xs : List ℕ) → AllDigits 10 xs → length xs ≤ 18 → digits_value_after 10 0 xs < 10 ^ 18
few_alone xs a h = omega (arith, digits_value-lt 10 xs a, pow-le-pow_right {n = 10} (omega arith) {i = length xs} {j = 18} h)

pub few_both : (xs ys : List ℕ) → AllDigits 10 xs → AllDigits 10 ys → length xs + length ys ≤ 18 → digits_value_after 10 (digits_value_after 10 0 xs) ys < 10 ^ 18
few_both xs ys a b h =
    subst (λ n. n < 10 ^ 18) (value_append 0 xs ys) (few_alone (xs ++ ys) (digits_append xs ys a b) (omega (arith, h, length-append xs ys)))

-- reading xs and then ys gives the value of xs followed by ys
pub both_is : (m n : ℕ) (xs ys : List ℕ) → m ≡ digits_value_after 10 0 xs → n ≡ digits_value_after 10 m ys → n ≡ digits_value 10 (xs ++ ys)
both_is m n xs ys e f = f ∙ (ap (λ k. digits_value_after 10 k ys) e ∙ sym (value_append 0 xs ys))
