-- Entries that are not retired, with their keys, and which keys are in conflict among them.
use Rattle.std.specs.Prelude.{◌≡◌, ◌≢◌, ◌↔◌, nat_eq, Bool, true, not, List, [], ◌∷◌, ◌++◌, ◌⊎◌, map, Contains, Some, if◌then◌else◌}
use Rattle.std.specs.List.{list_any}
use Rattle.std.specs.declared.cmp.Ordering.{Ordering}
use Rattle.std.specs.Ordering.{is_eq}
use Rattle.std.specs.Cmp.Lexicographic.{pointwise}
use Rattle.reg_op.specs.Definition.{IsKeyIn}
use Rattle.reg_op.specs.Set as set
use Rattle.reg_op.specs.Set.{Ascends}
use Rattle.reg_op.specs.Ids.{Id, Ids, id_cmp}
use Rattle.reg_op.specs.Rows.{Row}
use Rattle.reg_op.specs.declared.status.Status.TheVariants.{Retired}
use Rattle.reg_report.specs.declared.contender.Contender.{Contender}
use Rattle.reg_report.specs.declared.conflict.Conflict.{Conflict}
use Rattle.reg_report.specs.Conflicts.{KeyBytes, bytes_of, key_cmp, Contested}

abbrev pub key_of : Contender → KeyBytes
key_of c = bytes_of c.key

abbrev pub contender_cmp : Contender → Contender → Ordering
contender_cmp a b = key_cmp (key_of a) (key_of b)

abbrev pub has_same_key : Contender → Contender → Bool
has_same_key a b = is_eq (contender_cmp a b)

abbrev pub has_other_text : Contender → Contender → Bool
has_other_text a b = not (pointwise nat_eq a.definition b.definition)

-- its entry, its text and its key are those of the row
pub record IsOfRow (c : Contender) (r : Row) : Type 0 where
  pub entry : c.entry ≡ r.entry
  pub definition : c.definition ≡ r.definition
  pub keyed : IsKeyIn c.key r.definition

-- one for each row that is not retired, in any order
pub record AreContenders (rs : List Row) (cs : List Contender) : Type 0 where
  pub each : (c : Contender) → Contains cs c → (r : Row) × Contains rs r × (r.status ≢ Some Retired) × IsOfRow c r
  pub all : (r : Row) → Contains rs r → r.status ≢ Some Retired → (c : Contender) × Contains cs c × IsOfRow c r

-- a row adds one at the end, unless it is retired
abbrev pub Adds : Row → List Contender → List Contender → Type 0
Adds r old new = ((r.status ≡ Some Retired) × (new ≡ old)) ⊎ ((r.status ≢ Some Retired) × ((c : Contender) × IsOfRow c r × (new ≡ old ++ c ∷ [])))

-- the key of the first, if the texts of the following ones are not all the same
abbrev pub conflict_at : Contender → List Contender → List Contested
conflict_at first others =
    if list_any (has_other_text first) others
    then record { key = key_of first; entries = set.items (set.from_list {R = id_cmp} (map (λ (c : Contender). c.entry) (first ∷ others))) } ∷ []
    else []

-- two of them have the key, and different texts
pub record Differ (cs : List Contender) (k : KeyBytes) : Type 0 where
  pub one : Contender
  pub other : Contender
  pub has_one : Contains cs one
  pub has_other : Contains cs other
  pub key_of_one : key_of one ≡ k
  pub key_of_other : key_of other ≡ k
  pub differ : one.definition ≢ other.definition

-- one of them has the key, and is this entry
pub record Enters (cs : List Contender) (k : KeyBytes) (i : Id) : Type 0 where
  pub one : Contender
  pub has_one : Contains cs one
  pub key_of_one : key_of one ≡ k
  pub is : one.entry ≡ i

-- the keys with different texts, in order, each with all its entries
pub record Tells (cs : List Contender) (ks : List Contested) : Type 0 where
  pub ascend : Ascends key_cmp (map (λ c. c.key) ks)
  pub sound : (c : Contested) → Contains ks c → Differ cs c.key
  pub complete : (k : KeyBytes) → Differ cs k → Contains (map (λ c. c.key) ks) k
  pub entries : (c : Contested) → Contains ks c → (ids : Ids) × (c.entries ≡ set.items ids) × ((i : Id) → (set.contains ids i ≡ true) ↔ Enters cs c.key i)

abbrev pub conflict_seen : Conflict → Contested
conflict_seen c = record { key = record { authority = c.authority.bytes; code = c.code.bytes }; entries = c.entries.items }
