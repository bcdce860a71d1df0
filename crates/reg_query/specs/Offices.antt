-- The counts of each office: seen ids and kept operations.
use Rattle.std.specs.Prelude.{◌≡◌, ℕ, ◌-◌, Bool, List, [], ◌∷◌, All, map, codes, decimal}
use Rattle.std.specs.List.{count_by}
use Rattle.std.specs.Ordering.{is_eq, is_lt}
use Rattle.uuid.specs.Text.{hyphenated_text, lower}
use Rattle.reg_op.specs.Set as set
use Rattle.reg_op.specs.Ids.{Id, Ids}
use Rattle.reg_op.specs.Operations.{Op}
use Rattle.reg_op.specs.Contents.{Content}
use Rattle.reg_state.specs.Runs.{replica_cmp, IsGreatest}
use Rattle.reg_query.specs.declared.figures.office.OfficeFigures.{OfficeFigures}

abbrev pub is_below : List ℕ → List ℕ → Bool
is_below one other = is_lt (replica_cmp one other)

abbrev pub is_same_replica : List ℕ → List ℕ → Bool
is_same_replica one other = is_eq (replica_cmp one other)

-- the id, or the operation, is of the replica
abbrev pub is_of : List ℕ → Id → Bool
is_of replica i = is_same_replica i.replica replica

abbrev pub is_op_of : List ℕ → Op → Bool
is_op_of replica o = is_of replica o.id

-- the replicas of some ids
abbrev pub replicas_of : Ids → set.Set replica_cmp
replicas_of ids = set.from_list (map (λ i. i.replica) (set.items ids))

-- the greatest count of the office that was seen, how many counts up to that were not, and how many of its operations are kept
pub record IsOffice (x : Content) (o : OfficeFigures) : Type 0 where
  pub greatest : IsGreatest x.seen o.replica o.greatest
  pub missing : o.missing ≡ o.greatest - count_by (is_of o.replica) (set.items x.seen)
  pub kept : o.kept ≡ count_by (is_op_of o.replica) (set.items x.ops)

-- an office for each replica of the seen ids, by replica
pub record AreOffices (x : Content) (os : List OfficeFigures) : Type 0 where
  pub replicas : map (λ o. o.replica) os ≡ set.items (replicas_of x.seen)
  pub offices : All (IsOffice x) os

abbrev pub offices_header : List (List ℕ)
offices_header = codes "replica" ∷ codes "greatest" ∷ codes "missing" ∷ codes "kept" ∷ []

abbrev pub office_fields : OfficeFigures → List (List ℕ)
office_fields o = hyphenated_text lower o.replica ∷ decimal o.greatest ∷ decimal o.missing ∷ decimal o.kept ∷ []
