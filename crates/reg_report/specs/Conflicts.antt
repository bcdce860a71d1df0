-- Keys in conflict.
use Rattle.std.specs.Prelude.{◌≡◌, ◌≢◌, ◌↔◌, ℕ, true, List, map, Contains, Some}
use Rattle.std.specs.declared.cmp.Ordering.{Ordering}
use Rattle.std.specs.Ordering.{nat_cmp, ordering_then}
use Rattle.std.specs.Cmp.Lexicographic.{slice_cmp}
use Rattle.crs_value.specs.declared.key.Key.{Key}
use Rattle.reg_op.specs.Definition.{IsKeyIn}
use Rattle.reg_op.specs.Set as set
use Rattle.reg_op.specs.Set.{Ascends}
use Rattle.reg_op.specs.Ids.{Id, Ids}
use Rattle.reg_op.specs.Rows.{Row, IsInConflict}
use Rattle.reg_op.specs.declared.status.Status.TheVariants.{Retired}

-- the bytes of a key's authority and of its code
pub record KeyBytes : Type 0 where
  pub authority : List ℕ
  pub code : List ℕ

abbrev pub bytes_of : Key → KeyBytes
bytes_of key = record { authority = key.authority.bytes; code = key.code.bytes }

-- keys are ordered by the authority's bytes, and then by the code's
abbrev pub key_cmp : KeyBytes → KeyBytes → Ordering
key_cmp a b = ordering_then (slice_cmp nat_cmp a.authority b.authority) (slice_cmp nat_cmp a.code b.code)

-- the first identifier in the text has this key
abbrev pub HasKey : List ℕ → KeyBytes → Type 0
HasKey text k = (key : Key) × IsKeyIn key text × (bytes_of key ≡ k)

-- an entry of the key that is not retired
pub record Stands (rs : List Row) (k : KeyBytes) (entry : Id) : Type 0 where
  pub row : Row
  pub there : Contains rs row
  pub is : row.entry ≡ entry
  pub stands : row.status ≢ Some Retired
  pub keyed : HasKey row.definition k

-- a key and entries of it
pub record Contested : Type 0 where
  pub key : KeyBytes
  pub entries : List Id

-- the keys in conflict, in order, each with all its entries that are not retired, ordered by id
pub record AreConflicts (rs : List Row) (cs : List Contested) : Type 0 where
  pub ascend : Ascends key_cmp (map (λ c. c.key) cs)
  pub each : (k : KeyBytes) → Contains (map (λ c. c.key) cs) k ↔ IsInConflict HasKey rs k
  pub entries : (c : Contested) → Contains cs c → (ids : Ids) × (c.entries ≡ set.items ids) × ((i : Id) → (set.contains ids i ≡ true) ↔ Stands rs c.key i)
