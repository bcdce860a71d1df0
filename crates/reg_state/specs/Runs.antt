-- Runs of ids, and the ids that they have.
use Rattle.std.specs.Prelude.{◌≡◌, ℕ, ◌+◌, ◌-◌, ◌<◌, ◌≤◌, nat_le, Bool, true, not, ◌&&◌, ◌||◌, ◌⊎◌, List, [], ◌∷◌, ◌++◌, zero, suc, max, min, Option, slice_get}
use Rattle.std.specs.List.{list_any}
use Rattle.std.specs.declared.cmp.Ordering.{Ordering}
use Rattle.std.specs.declared.cmp.Ordering.TheVariants.{Less}
use Rattle.std.specs.Ordering.{nat_cmp, is_eq, is_gt}
use Rattle.std.specs.Cmp.Lexicographic.{slice_cmp}
use Rattle.reg_op.specs.Set as set
use Rattle.reg_op.specs.Ids.{Id, IsId, Ids}
use Rattle.reg_state.specs.declared.run.Run.{Run}

-- UUIDs are ordered by their bytes
abbrev pub replica_cmp : List ℕ → List ℕ → Ordering
replica_cmp a b = slice_cmp nat_cmp a b

abbrev pub IsBelow : List ℕ → List ℕ → Type 0
IsBelow a b = replica_cmp a b ≡ Less

abbrev pub is_replica_by : List ℕ → List ℕ → Bool
is_replica_by a b = not (is_gt (replica_cmp a b))

abbrev pub id_at : List ℕ → ℕ → Id
id_at replica count = record { replica = replica; count = count }

abbrev pub first_of : Run → Id
first_of r = id_at r.replica r.low

abbrev pub last_of : Run → Id
last_of r = id_at r.replica r.high

-- n consecutive ids of a replica, from the count `low` on
abbrev pub ids_from : List ℕ → ℕ → ℕ → List Id
ids_from replica low zero = []
ids_from replica low (suc n) = id_at replica low ∷ ids_from replica (low + 1) n

abbrev pub ids_of_run : Run → List Id
ids_of_run r = ids_from r.replica r.low (r.high + 1 - r.low)

abbrev pub ids_of_runs : List Run → List Id
ids_of_runs [] = []
ids_of_runs (r ∷ rs) = ids_of_run r ++ ids_of_runs rs

-- the ids of some runs
abbrev pub seen_of : List Run → Ids
seen_of rs = set.from_list (ids_of_runs rs)

-- an id is in a run; in some run of a list
abbrev pub is_in_run : Id → Run → Bool
is_in_run i r = is_eq (replica_cmp i.replica r.replica) && (nat_le r.low i.count && nat_le i.count r.high)

abbrev pub is_in_runs : Id → List Run → Bool
is_in_runs i rs = list_any (is_in_run i) rs

-- the two runs have an id in common
abbrev pub overlap : Run → Run → Bool
overlap r s = is_eq (replica_cmp r.replica s.replica) && nat_le (max r.low s.low) (min r.high s.high)

-- some id of the run is in the set
abbrev pub meets : Ids → Run → Bool
meets s r = list_any (set.contains s) (ids_of_run r)

-- s begins after r, and does not touch it
abbrev pub IsApart : Run → Run → Type 0
IsApart r s = IsBelow r.replica s.replica ⊎ ((r.replica ≡ s.replica) × (r.high + 1 < s.low))

-- an id comes after a run, and does not touch it
abbrev pub IsBeyond : Run → Id → Type 0
IsBeyond r i = IsBelow r.replica i.replica ⊎ ((r.replica ≡ i.replica) × (r.high + 1 < i.count))

abbrev pub IsRun : Run → Type 0
IsRun r = (1 ≤ r.low) × (r.low ≤ r.high)

-- the runs ascend, and are as long as possible
abbrev pub AreRuns : List Run → Type 0
AreRuns [] = Unit {0}
AreRuns (r ∷ []) = IsRun r
AreRuns (r ∷ s ∷ rs) = IsRun r × IsApart r s × AreRuns (s ∷ rs)

-- the last id of each run is a valid id
abbrev pub EndInIds : List Run → Type 0
EndInIds [] = Unit {0}
EndInIds (r ∷ rs) = IsId (last_of r) × EndInIds rs

-- the runs that a `Seen` holds
pub record AreSeen (rs : List Run) : Type 0 where
  pub runs : AreRuns rs
  pub ids : EndInIds rs

-- each member is a valid id
abbrev pub AllIds : Ids → Type 0
AllIds s = (i : Id) → set.contains s i ≡ true → IsId i

-- the greatest count of a replica in a set, or 0 if there is none
pub record IsGreatest (s : Ids) (replica : List ℕ) (n : ℕ) : Type 0 where
  pub there : 0 < n → set.contains s (id_at replica n) ≡ true
  pub bound : (count : ℕ) → set.contains s (id_at replica count) ≡ true → count ≤ n

-- the greatest count of a replica in some runs
pub record IsLastCount (rs : List Run) (q : List ℕ) (n : ℕ) : Type 0 where
  pub there : 0 < n → is_in_runs (id_at q n) rs ≡ true
  pub bound : (count : ℕ) → is_in_runs (id_at q count) rs ≡ true → count ≤ n

-- the run is above each member, and touches none
abbrev pub IsAbove : Ids → Run → Type 0
IsAbove s r = (i : Id) → set.contains s i ≡ true → IsBelow i.replica r.replica ⊎ ((i.replica ≡ r.replica) × (i.count + 1 < r.low))

-- the same for the ids of runs
abbrev pub AllUnder : List Run → Run → Type 0
AllUnder rs r = (i : Id) → is_in_runs i rs ≡ true → IsBelow i.replica r.replica ⊎ ((i.replica ≡ r.replica) × (i.count + 1 < r.low))

-- the run at an index in the list of the maximal runs of a set, which is ordered by replica and by low
pub record IsRunAt (s : Ids) (k : ℕ) (run : Option Run) : Type 0 where
  pub runs : List Run
  pub are_runs : AreRuns runs
  pub are_all : seen_of runs ≡ s
  pub at : run ≡ slice_get runs k

-- r begins no later than s; each run of a list begins no later than s
abbrev pub BeginsBy : Run → Run → Type 0
BeginsBy r s = IsBelow r.replica s.replica ⊎ ((r.replica ≡ s.replica) × (r.low ≤ s.low))

abbrev pub AllBegin : List Run → Run → Type 0
AllBegin [] s = Unit {0}
AllBegin (r ∷ rs) s = BeginsBy r s × AllBegin rs s

-- each run begins no later than the first of the others, if there is one
abbrev pub NextBegins : List Run → List Run → Type 0
NextBegins rs [] = Unit {0}
NextBegins rs (s ∷ ss) = AllBegin rs s

-- during a walk: the output and the rests of two lists have the ids of the two lists
pub record IsJoining (out lefts rights left right : List Run) : Type 0 where
  pub out_runs : AreRuns out
  pub left_runs : AreRuns lefts
  pub right_runs : AreRuns rights
  pub left_next : NextBegins out lefts
  pub right_next : NextBegins out rights
  pub out_ids : EndInIds out
  pub left_ids : EndInIds lefts
  pub right_ids : EndInIds rights
  pub covered : (i : Id) → (is_in_runs i out || (is_in_runs i lefts || is_in_runs i rights)) ≡ (is_in_runs i left || is_in_runs i right)
