-- Whole numbers, and the normal forms of numbers.
use Rattle.std.proofs.Common.{◌≡◌, ℕ, zero, suc, ◌+◌, ◌*◌, ◌/◌, ◌%◌, ◌^◌, ◌<◌, true, ◌==◌, ℤ, pos, negsuc, ◌+ℤ◌, unsigned_abs, refl, sym, ap, ◌∙◌, inl, inr, ⊎_elim, arith, mul_assoc, zero-mul}
use Rattle.std.specs.Prelude.{nat_lt}
use Rattle.std.proofs.Math.Nat.{mul-pos, mul-mod_left, mul-div_cancel, div-add-mod', pow-succ', one-le-pow, mul-le-mul_left}
use Rattle.std.proofs.lemmas.Int.{ints}
use Rattle.std.proofs.lemmas.Nat.{pow-add}
use Rattle.std.proofs.lemmas.Bool.{cases_eq, and_parts, and_from, ltb-true, eq-eqb}
use Rattle.std.proofs.lemmas.Bool.Decides.{nat_tests}
use Rattle.crs_number.specs.Numeral.{IsNormalForm, IsInRange}
use Rattle.crs_number.specs.Value.{IsWhole}
use Rattle.crs_number.specs.ByValue.{no_count}
use Rattle.crs_number.specs.Laws.{power_pos, tens, ends_in_zero}
use Rattle.crs_number.specs.Count.{is_count_at}

-- c times ten to the e is n, where neither c nor e is negative
pub record Scaled (c e : ℤ) (n : ℕ) : Type 0 where
  pub front : ℕ
  pub zeros : ℕ
  pub is_front : c ≡ pos front
  pub is_zeros : e ≡ pos zeros
  pub is : n ≡ front * 10 ^ zeros

-- if c times ten to the e is n, and c is not a multiple of ten, neither c nor e is negative
scaled : (c e : ℤ) (n : ℕ) → (unsigned_abs c % 10 ≡ 0 → ⊥) → IsWhole c e (pos n) → Scaled c e n
scaled (pos a) (pos i) n some h = record { front = a; zeros = i; is_front = refl; is_zeros = refl; is = omega (arith, ints, h) }
scaled (negsuc a) (pos i) n some h = absurd (no_count (negsuc a) (pos i) n (λ z. absurd (some z)) (inl (omega (arith, ints))) h)
scaled c (negsuc i) n some h = absurd (no_count c (negsuc i) n (λ z. absurd (some z)) (inr (omega (arith, ints))) h)

more_zeros : (a i k : ℕ) → a * 10 ^ (i + k) ≡ a * 10 ^ i * 10 ^ k
more_zeros a i k = rw pow-add (sym (mul_assoc a (10 ^ i) (10 ^ k)))

zero_count : (n : ℕ) → IsWhole (pos 0) (pos 0) (pos n) → n ≡ 0
zero_count n h = omega (arith, ints, h)

zero_at : (x : ℤ) → IsWhole (pos 0) x (pos 0)
zero_at (pos k) = ap pos (sym (zero-mul (10 ^ k)))
zero_at (negsuc k) = ap pos (sym (zero-mul (10 ^ suc k)))

zero_whole : (z x c e : ℤ) (n : ℕ) → z ≡ pos 0 → c ≡ pos 0 → e ≡ pos 0 → IsWhole c e (pos n) → IsWhole z x (pos n)
zero_whole z x c e n p q r h = let none : n ≡ 0 = zero_count n (rw (q, r) at h) in rw (p, none) (zero_at x)

some_whole : (a i k n : ℕ) (x : ℤ) → n ≡ a * 10 ^ i → pos i ≡ x +ℤ pos k → IsWhole (pos (a * 10 ^ k)) x (pos n)
some_whole a i k n (pos j) h e = let sum : i ≡ k + j = omega (arith, ints, e) in ap pos (h ∙ (ap (λ t. a * 10 ^ t) sum ∙ more_zeros a k j))
some_whole a i k n (negsuc j) h e =
    let sum : k ≡ i + suc j = omega (arith, ints, e) in
    ap pos (ap (λ t. a * 10 ^ t) sum ∙ (more_zeros a i (suc j) ∙ ap (λ t. t * 10 ^ suc j) (sym h)))

-- if the normal form of a number equals n, so does the number
pub whole_from_normal : (z x c e : ℤ) (n : ℕ) → IsNormalForm z x c e → IsWhole c e (pos n) → IsWhole z x (pos n)
whole_from_normal z x c e n (inl h) w = zero_whole z x c e n h.0 h.1 h.2 w
whole_from_normal z x c e n (inr h) w =
    let s = scaled c e n h.0 w in
    rw (h.1.1, s.is_front) (some_whole s.front s.zeros h.1.0 n x s.is (sym s.is_zeros ∙ h.1.2))

-- z times ten to the x is a whole number from 0 to 2 ^ 32 - 1
pub record CountAt (z x : ℤ) : Type 0 where
  pub count : ℕ
  pub whole : IsWhole z x (pos count)
  pub small : count < 2 ^ 32

divides : (n p : ℕ) → n % p == 0 ≡ true → n ≡ n / p * p
divides n p h = let none : n % p ≡ 0 = grind (arith, nat_tests) in omega (arith, div-add-mod' n p)

pub count_at_from : (z x : ℤ) → is_count_at z x ≡ true → CountAt z x
count_at_from (pos n) (pos k) h = record { count = n * 10 ^ k; whole = refl; small = ltb-true (n * 10 ^ k) (2 ^ 32) h }
count_at_from (pos n) (negsuc k) h =
    let tests = and_parts _ _ h in
    record { count = n / 10 ^ suc k; whole = ap pos (divides n (10 ^ suc k) tests.0); small = ltb-true (n / 10 ^ suc k) (2 ^ 32) tests.1 }
count_at_from (negsuc n) x h = absurd (cc)

passes_below : (m n : ℕ) → m ≡ n → n < 2 ^ 32 → nat_lt m (2 ^ 32) ≡ true
passes_below m n e h = grind (arith, nat_tests)

not_negative : (m k n : ℕ) → IsWhole (negsuc m) (pos k) (pos n) → ⊥
not_negative m k n h = let s = mul-pos {m = suc m} {n = 10 ^ k} (omega arith) (power_pos k) in omega (arith, ints, h, s)

pub count_at_to : (z x : ℤ) (n : ℕ) → IsWhole z x (pos n) → n < 2 ^ 32 → is_count_at z x ≡ true
count_at_to (pos m) (pos k) n h small = passes_below (m * 10 ^ k) n (omega (arith, ints, h)) small
count_at_to (pos m) (negsuc k) n h small =
    let p = 10 ^ suc k in
    let e : m ≡ n * p = omega (arith, ints, h) in
    and_from _ _ (eq-eqb (m % p) 0 (ap (λ x. x % p) e ∙ mul-mod_left n p)) (passes_below (m / p) n (ap (λ x. x / p) e ∙ mul-div_cancel n (power_pos (suc k))) small)
count_at_to (negsuc m) (pos k) n h small = absurd (not_negative m k n h)
count_at_to (negsuc m) (negsuc k) n h small = absurd (omega (arith, ints, h))

-- ---- the normal form of a count

-- n is `front`, which is not a multiple of ten, followed by fewer than m zeros
pub record Tenless (m n : ℕ) : Type 0 where
  pub front : ℕ
  pub zeros : ℕ
  pub is : n ≡ front * 10 ^ zeros
  pub tenless : front % 10 ≡ 0 → ⊥
  pub few : zeros < m

zero_behind : (m n : ℕ) → Tenless m (n / 10) → n % 10 ≡ 0 → Tenless (suc m) n
zero_behind m n r z = record { front = r.front; zeros = suc r.zeros; is = omega (arith, r.is, tens r.front r.zeros, z); tenless = r.tenless; few = omega (arith, r.few) }

tenless : (m n : ℕ) → n < 10 ^ m → 0 < n → Tenless m n
tenless zero n h p = absurd (omega (arith, h))
tenless (suc m) n h p = ⊎_elim
    (λ z. zero_behind m n (tenless m (n / 10) (omega (arith, h, pow-succ' 10 m)) (omega (arith, z))) z)
    (λ some. record { front = n; zeros = 0; is = omega arith; tenless = some; few = omega arith })
    (cases_eq (n % 10) 0)

front_small : (n : ℕ) (t : Tenless 10 n) → n < 2 ^ 32 → t.front < 10 ^ 34
front_small n t h = let m = mul-le-mul_left {m = 1} {n = 10 ^ t.zeros} t.front (one-le-pow t.zeros 10 (omega arith)) in omega (arith, t.is, h, m)

-- z times ten to the x has a normal form that a decimal can hold, and that equals n
pub record Normal (z x : ℤ) (n : ℕ) : Type 0 where
  pub coefficient : ℤ
  pub exponent : ℤ
  pub normal : IsNormalForm z x coefficient exponent
  pub in_range : IsInRange coefficient exponent
  pub whole : IsWhole coefficient exponent (pos n)

none_from : (z x : ℤ) → IsWhole z x (pos 0) → z ≡ pos 0
none_from (pos zero) (pos k) h = refl
none_from (pos (suc m)) (pos k) h = let s = mul-pos {m = suc m} {n = 10 ^ k} (omega arith) (power_pos k) in absurd (omega (arith, ints, h, s))
none_from (negsuc m) (pos k) h = absurd (not_negative m k 0 h)
none_from z (negsuc k) h = h ∙ ap pos (zero-mul (10 ^ suc k))

-- m is `front` followed by `others` zeros, and `power` zeros more make `many`
pub record Split (m front many power : ℕ) : Type 0 where
  pub others : ℕ
  pub sum : many ≡ power + others
  pub is : m ≡ front * 10 ^ others

split : (m front many power : ℕ) → (front % 10 ≡ 0 → ⊥) → front * 10 ^ many ≡ m * 10 ^ power → Split m front many power
split m front many zero some h = record { others = many; sum = omega arith; is = omega (arith, h) }
split m front zero (suc power) some h = absurd (some (ends_in_zero front m power (omega (arith, h))))
split m front (suc many) (suc power) some h =
    let r = split m front many power some (omega (arith, h, tens front many, tens m power)) in
    record { others = r.others; sum = omega (arith, r.sum); is = r.is }

some_normal : (z x : ℤ) (n front behind : ℕ) → (front % 10 ≡ 0 → ⊥) → n ≡ front * 10 ^ behind → IsWhole z x (pos n) → IsNormalForm z x (pos front) (pos behind)
some_normal (pos m) (pos j) n front behind some e h =
    let r = split m front behind j some (sym e ∙ omega (arith, ints, h)) in
    inr (some, (r.others, ap pos r.is, omega (arith, ints, r.sum)))
some_normal (negsuc m) (pos j) n front behind some e h = absurd (not_negative m j n h)
some_normal z (negsuc j) n front behind some e h =
    inr (some, (behind + suc j, h ∙ ap pos (ap (λ t. t * 10 ^ suc j) e ∙ sym (more_zeros front behind (suc j))), omega (arith, ints)))

pub normal_of_count : (z x : ℤ) (n : ℕ) → n < 2 ^ 32 → IsWhole z x (pos n) → Normal z x n
normal_of_count z x n small h = ⊎_elim
    (λ none. record {
      coefficient = pos 0;
      exponent = pos 0;
      normal = inl (none_from z x (rw none at h), refl, refl);
      in_range = record { small = omega arith; low = omega (arith, ints); high = omega (arith, ints) };
      whole = ap pos none;
    })
    (λ some.
    let t = tenless 10 n (omega (arith, small)) (omega (arith, some)) in
    record {
      coefficient = pos t.front;
      exponent = pos t.zeros;
      normal = some_normal z x n t.front t.zeros t.tenless t.is h;
      in_range = record { small = front_small n t small; low = omega (arith, ints); high = omega (arith, ints, t.few) };
      whole = ap pos t.is;
    })
    (cases_eq n 0)
