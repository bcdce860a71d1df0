-- The order of codes: numbers come first, by value.
use Rattle.std.specs.Prelude.{ℕ, ◌+◌, ◌-◌, ◌*◌, Bool, ◌==◌, ◌&&◌, nat_le, List, [], ◌∷◌, length, if◌then◌else◌}
use Rattle.std.specs.List.{list_all}
use Rattle.std.specs.declared.cmp.Ordering.{Ordering}
use Rattle.std.specs.Ordering.{nat_cmp, ordering_then}
use Rattle.std.specs.Cmp.Lexicographic.{slice_cmp}

abbrev pub is_digit : ℕ → Bool
is_digit b = nat_le 48 b && nat_le b 57

-- a code of digits alone
abbrev pub is_number : List ℕ → Bool
is_number code = list_all is_digit code

abbrev pub without_zeros : List ℕ → List ℕ
without_zeros [] = []
without_zeros (b ∷ bs) = if b == 48 then without_zeros bs else b ∷ bs

-- numbers come before texts
abbrev pub class_of : List ℕ → ℕ
class_of code = if is_number code then 0 else 1

-- the digits of a number without the zeros at its front
abbrev pub digits_of : List ℕ → List ℕ
digits_of code = if is_number code then without_zeros code else []

-- the number that digits write, and the same after those of another number
abbrev pub number_after : ℕ → List ℕ → ℕ
number_after n [] = n
number_after n (b ∷ bs) = number_after (n * 10 + (b - 48)) bs

abbrev pub number_of : List ℕ → ℕ
number_of code = number_after 0 code

-- of two numbers, the one with fewer digits is less, and else the one with the lesser digit where they differ; codes of one value
-- are in the order of their bytes, and so are texts
abbrev pub code_cmp : List ℕ → List ℕ → Ordering
code_cmp a b =
    ordering_then (nat_cmp (class_of a) (class_of b))
    (ordering_then (nat_cmp (length (digits_of a)) (length (digits_of b)))
    (ordering_then (slice_cmp nat_cmp (digits_of a) (digits_of b)) (slice_cmp nat_cmp a b)))
