-- Ids of operations.
use Rattle.std.specs.Prelude.{◌≡◌, ℕ, ◌<◌, ◌≤◌, ◌^◌, Bool, List, All, length, refl}
use Rattle.std.specs.declared.cmp.Ordering.{Ordering}
use Rattle.std.specs.Ordering.{nat_cmp, ordering_then, is_lt, is_eq}
use Rattle.std.specs.Cmp.Lexicographic.{slice_cmp}
use Rattle.std.specs.Coded.{Coded, code_by, coded×, coded_ℕ, coded_list}
use Rattle.reg_op.specs.Set as set

-- the bytes of a replica's UUID, and which of its operations it is
pub record Id : Type 0 where
  pub replica : List ℕ
  pub count : ℕ

-- sixteen bytes, and a count from 1 to 4,294,967,295
pub record IsId (i : Id) : Type 0 where
  pub long : length i.replica ≡ 16
  pub bytes : All (λ b. b < 256) i.replica
  pub positive : 1 ≤ i.count
  pub fits : i.count < 2 ^ 32

-- ids are ordered by the UUID's bytes, and then by the count
abbrev pub id_cmp : Id → Id → Ordering
id_cmp a b = ordering_then (slice_cmp nat_cmp a.replica b.replica) (nat_cmp a.count b.count)

abbrev pub is_before : Id → Id → Bool
is_before a b = is_lt (id_cmp a b)

abbrev pub is_same : Id → Id → Bool
is_same a b = is_eq (id_cmp a b)

-- a set of ids
abbrev pub Ids : Type 0
Ids = set.Set id_cmp

abbrev pub id_code : Coded Id
id_code = code_by (List ℕ × ℕ) (coded× (coded_list coded_ℕ) coded_ℕ) (λ i. (i.replica, i.count)) (λ p. record { replica = p.0; count = p.1 }) (λ _. refl)
