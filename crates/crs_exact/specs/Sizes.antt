-- Exact comparisons of decimals, and of products of two, apart from their signs.
use Rattle.std.specs.Prelude.{ℕ, ◌+◌, ◌*◌, ◌-◌, ◌^◌, ◌==◌, Bool, not, ◌&&◌, nat_lt, unsigned_abs}
use Rattle.crs_number.specs.declared.decimals.Decimal.{Decimal}
use Rattle.crs_number.specs.Value.{places}

-- the size of a decimal, in units of ten to the -40
abbrev pub size : Decimal → ℕ
size d = unsigned_abs d.coefficient * 10 ^ places d.exponent

-- below n with p decimal places
abbrev pub is_below : Decimal → ℕ → ℕ → Bool
is_below d n p = nat_lt (size d) (n * 10 ^ (40 - p))

-- above n with p decimal places
abbrev pub is_beyond : Decimal → ℕ → ℕ → Bool
is_beyond d n p = nat_lt (n * 10 ^ (40 - p)) (size d)

-- at most 17 digits, without the zeros at both ends
abbrev pub has_few_digits : Decimal → Bool
has_few_digits d = nat_lt (unsigned_abs d.coefficient) (10 ^ 17)

-- the size of a product, in units of ten to the -80
abbrev pub product : Decimal → Decimal → ℕ
product d f = unsigned_abs d.coefficient * unsigned_abs f.coefficient * 10 ^ (places d.exponent + places f.exponent)

-- both have few digits, and their product is below n with p decimal places
abbrev pub is_product_below : Decimal → Decimal → ℕ → ℕ → Bool
is_product_below d f n p = (has_few_digits d && has_few_digits f) && nat_lt (product d f) (n * 10 ^ (80 - p))

-- both have few digits, and their product is above n with p decimal places
abbrev pub is_product_beyond : Decimal → Decimal → ℕ → ℕ → Bool
is_product_beyond d f n p = (has_few_digits d && has_few_digits f) && nat_lt (n * 10 ^ (80 - p)) (product d f)

-- equal, or opposite
abbrev pub is_same_size : Decimal → Decimal → Bool
is_same_size x y = unsigned_abs x.coefficient == unsigned_abs y.coefficient && places x.exponent == places y.exponent

-- both have few digits, and the first is within a tenth of the second
abbrev pub is_nearly : Decimal → Decimal → Bool
is_nearly x y = (has_few_digits x && has_few_digits y) && (not (nat_lt (unsigned_abs x.coefficient * 10 ^ (places x.exponent + 1)) (unsigned_abs y.coefficient * 9 * 10 ^ places y.exponent)) && not (nat_lt (unsigned_abs y.coefficient * 11 * 10 ^ places y.exponent) (unsigned_abs x.coefficient * 10 ^ (places x.exponent + 1))))
