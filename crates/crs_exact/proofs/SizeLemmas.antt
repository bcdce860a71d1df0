-- Comparisons of numbers that are scaled by powers of ten.
use Rattle.std.proofs.Common.{◌≡◌, ℕ, ◌+◌, ◌-◌, ◌*◌, ◌^◌, ◌<◌, ◌≤◌, true, false, nat_lt, sym, ap, ◌∙◌, arith, mul_assoc, mul_comm}
use Rattle.std.proofs.Math.Nat.{mul-lt-mul_of_pos_right, mul-le-mul_right}
use Rattle.std.proofs.lemmas.Nat.{pow-add}
use Rattle.std.proofs.lemmas.Bool.{lt-ltb, le-ltb, ltb-true, ltb_from_iff}
use Rattle.crs_number.specs.Laws.{power_pos}

lt_back : (x y z : ℕ) → (y ≤ x → ⊥) → x < y
lt_back x y z h = omega (arith, h)

pub lt_times : (x y z : ℕ) → 0 < z → nat_lt x y ≡ nat_lt (x * z) (y * z)
lt_times x y z p = ltb_from_iff (
  λ e. mul-lt-mul_of_pos_right (ltb-true x y e) p,
  λ l. lt-ltb x y (lt_back x y z (λ h. let m = mul-le-mul_right z h in omega (arith, m, l))),
)

shift_out : (a shift low : ℕ) → a * 10 ^ shift * 10 ^ low ≡ a * 10 ^ (low + shift)
shift_out a shift low = mul_assoc a (10 ^ shift) (10 ^ low) ∙ ap (λ n. a * n) (mul_comm (10 ^ shift) (10 ^ low) ∙ sym (pow-add 10 low shift))

back_again : (low high : ℕ) → low ≤ high → low + (high - low) ≡ high
back_again low high h = omega arith

-- the right number has the greater power
pub lt_right : (a b low high : ℕ) → low ≤ high → nat_lt a (b * 10 ^ (high - low)) ≡ nat_lt (a * 10 ^ low) (b * 10 ^ high)
lt_right a b low high h =
    lt_times a (b * 10 ^ (high - low)) (10 ^ low) (power_pos low) ∙ ap (λ n. nat_lt (a * 10 ^ low) n) (shift_out b (high - low) low ∙ ap (λ k. b * 10 ^ k) (back_again low high h))

-- the left number has the greater power
pub lt_left : (a b low high : ℕ) → low ≤ high → nat_lt (a * 10 ^ (high - low)) b ≡ nat_lt (a * 10 ^ high) (b * 10 ^ low)
lt_left a b low high h =
    lt_times (a * 10 ^ (high - low)) b (10 ^ low) (power_pos low) ∙ ap (λ n. nat_lt n (b * 10 ^ low)) (shift_out a (high - low) low ∙ ap (λ k. a * 10 ^ k) (back_again low high h))

pub none_right : (a b low high : ℕ) → low ≤ high → a < 10 ^ 34 → (b * 10 ^ (high - low) < 10 ^ 34 → ⊥) → true ≡ nat_lt (a * 10 ^ low) (b * 10 ^ high)
none_right a b low high h s n = sym (lt-ltb a (b * 10 ^ (high - low)) (omega (arith, s, n))) ∙ lt_right a b low high h

pub none_left : (a b low high : ℕ) → low ≤ high → b < 10 ^ 34 → (a * 10 ^ (high - low) < 10 ^ 34 → ⊥) → false ≡ nat_lt (a * 10 ^ high) (b * 10 ^ low)
none_left a b low high h s n = sym (le-ltb (a * 10 ^ (high - low)) b (omega (arith, s, n))) ∙ lt_left a b low high h
