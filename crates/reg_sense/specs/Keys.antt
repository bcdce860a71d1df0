-- The order of keys: those of EPSG first; by authority; then codes of digits alone, of which the longer is the greater number, and then
-- other codes.
use Rattle.std.specs.Prelude.{ℕ, Bool, ◌&&◌, nat_le, List, length, codes, if◌then◌else◌}
use Rattle.std.specs.List.{list_all}
use Rattle.std.specs.Ordering.{nat_cmp, is_lt, ordering_then}
use Rattle.std.specs.Cmp.Lexicographic.{slice_cmp}
use Rattle.std.specs.Str.{bytes_eq}
use Rattle.std.specs.declared.cmp.Ordering.{Ordering}
use Rattle.reg_sense.specs.Claimants.{Voice}

abbrev pub is_digit : ℕ → Bool
is_digit b = nat_le 48 b && nat_le b 57

-- a code of digits alone
abbrev pub is_number : List ℕ → Bool
is_number code = list_all is_digit code

-- numbers come before texts
abbrev pub class_of : List ℕ → ℕ
class_of code = if is_number code then 0 else 1

-- how many digits a number has
abbrev pub digits_of : List ℕ → ℕ
digits_of code = if is_number code then length code else 0

abbrev pub code_cmp : List ℕ → List ℕ → Ordering
code_cmp a b = ordering_then (nat_cmp (class_of a) (class_of b)) (ordering_then (nat_cmp (digits_of a) (digits_of b)) (slice_cmp nat_cmp a b))

-- EPSG comes before others, which copy it
abbrev pub rank_of : List ℕ → ℕ
rank_of authority = if bytes_eq authority (codes "EPSG") then 0 else 1

abbrev pub authority_cmp : List ℕ → List ℕ → Ordering
authority_cmp a b = ordering_then (nat_cmp (rank_of a) (rank_of b)) (slice_cmp nat_cmp a b)

abbrev pub key_cmp : Voice → Voice → Ordering
key_cmp a b = ordering_then (authority_cmp a.authority b.authority) (code_cmp a.code b.code)

abbrev pub is_before : Voice → Voice → Bool
is_before a b = is_lt (key_cmp a b)

abbrev pub has_same_key : Voice → Voice → Bool
has_same_key a b = bytes_eq a.authority b.authority && bytes_eq a.code b.code
