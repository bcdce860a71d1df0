-- Numbers as texts of whole numbers, rounded.
use Rattle.std.specs.Prelude.{ℕ, suc, ◌+◌, ◌-◌, ◌*◌, ◌/◌, ◌^◌, ◌==◌, nat_lt, ◌&&◌, List, ◌∷◌, ◌++◌, replicate, decimal, codes, if◌then◌else◌}

-- n times ten to the p
abbrev pub spelled : ℕ → ℕ → List ℕ
spelled n p = decimal n ++ replicate p 48

-- n divided by ten times ten to the p, rounded half up
abbrev pub quotient : ℕ → ℕ → ℕ
quotient n p = (n + 5 * 10 ^ p) / (10 * 10 ^ p)

-- n times ten to the p, in units of ten to the k
abbrev pub rounded : ℕ → ℕ → ℕ → List ℕ
rounded n p k =
    if n == 0 then codes "0"
    else if nat_lt p k then decimal (quotient n (k - suc p))
    else spelled n (p - k)

-- n times m, of at most 17 digits each, times ten to the p and the q, in units of ten to the k; or both apart
abbrev pub product_rounded : ℕ → ℕ → ℕ → ℕ → ℕ → List ℕ
product_rounded n p m q k =
    if nat_lt n (10 ^ 17) && nat_lt m (10 ^ 17) then rounded (n * m) (p + q) k
    else spelled n p ++ 42 ∷ spelled m q
