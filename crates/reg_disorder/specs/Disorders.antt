-- What is not in order in a register, by the rows of its content alone.
use Rattle.std.specs.Prelude.{◌≡◌, ◌↔◌, ◌<◌, ℕ, Bool, true, false, not, ◌&&◌, nat_eq, List, [], ◌∷◌, Contains, length, map, Some}
use Rattle.std.specs.List.{count_by}
use Rattle.std.specs.Cmp.Lexicographic.{pointwise}
use Rattle.std.specs.declared.cmp.Ordering.{Ordering}
use Rattle.std.specs.Ordering.{ordering_then}
use Rattle.reg_op.specs.Set as set
use Rattle.reg_op.specs.Ids.{Id, id_cmp}
use Rattle.reg_op.specs.Rows.{Row}
use Rattle.reg_op.specs.declared.status.Status.TheVariants as status
use Rattle.reg_report.specs.Conflicts.{KeyBytes, key_cmp, HasKey}
use Rattle.reg_report.specs.Exports.{is_retired}
use Rattle.reg_disorder.specs.declared.disorder.Disorder.{Disorder}
use Rattle.reg_disorder.specs.declared.disorder.Disorder.TheVariants.{Duplicates, Dangling, Withdrawn}

-- ---- texts that were entered twice

-- an entry that is not retired has the text
abbrev pub stands_with : List ℕ → Row → Bool
stands_with text r = not (is_retired r.status) && pointwise nat_eq r.definition text

-- the entry is not retired, and its text is that of at least two such entries
pub record IsDuplicate (rs : List Row) (r : Row) : Type 0 where
  pub stands : is_retired r.status ≡ false
  pub several : 1 < count_by (stands_with r.definition) rs

-- ---- superseded entries without a valid heir

pub record IsValid (rs : List Row) (e : Id) : Type 0 where
  pub row : Row
  pub there : Contains rs row
  pub is : row.entry ≡ e
  pub valid : row.status ≡ Some status.Valid

-- entry e, which is not retired, is superseded by n
pub record IsSupersededBy (rs : List Row) (e n : Id) : Type 0 where
  pub row : Row
  pub there : Contains rs row
  pub is : row.entry ≡ e
  pub newer : Contains row.newer n

-- each id of the chain supersedes the one before it, the first one supersedes e, and the last one is valid
abbrev pub LeadsToValid : List Row → Id → List Id → Type 0
LeadsToValid rs e [] = IsValid rs e
LeadsToValid rs e (n ∷ chain) = IsSupersededBy rs e n × LeadsToValid rs n chain

-- the entry is superseded, and no chain leads from it to a valid entry: each ends at a retired or an awaited id, or is a circle
pub record IsDangling (rs : List Row) (r : Row) : Type 0 where
  pub superseded : r.status ≡ Some status.Superseded
  pub lost : (chain : List Id) → ¬ (LeadsToValid rs r.entry chain)

-- ---- keys whose entries are all retired

abbrev pub IsWithdrawn : List Row → Row → Type 0
IsWithdrawn rs r = (k : KeyBytes) → HasKey r.definition k → (other : Row) → Contains rs other → HasKey other.definition k → is_retired other.status ≡ true

-- ---- all that is listed

abbrev pub IsAmiss : Disorder → List Row → Row → Type 0
IsAmiss Duplicates rs r = IsDuplicate rs r
IsAmiss Dangling rs r = IsDangling rs r
IsAmiss Withdrawn rs r = IsWithdrawn rs r

-- an entry with its key
pub record Keyed : Type 0 where
  pub key : KeyBytes
  pub entry : Id

-- ordered by the key, and then by the id
abbrev pub keyed_cmp : Keyed → Keyed → Ordering
keyed_cmp a b = ordering_then (key_cmp a.key b.key) (id_cmp a.entry b.entry)

-- a row is not in order in this way, and has this entry and this key
pub record IsListed (way : Disorder) (rs : List Row) (l : Keyed) : Type 0 where
  pub row : Row
  pub there : Contains rs row
  pub amiss : IsAmiss way rs row
  pub key : HasKey row.definition l.key
  pub entry : row.entry ≡ l.entry

-- exactly these, each once, in order
pub record AreAmiss (way : Disorder) (rs : List Row) (ls : List Keyed) : Type 0 where
  pub all : set.Set keyed_cmp
  pub are : ls ≡ set.items all
  pub each : (l : Keyed) → (set.contains all l ≡ true) ↔ IsListed way rs l

-- ---- counts

-- the number of different keys
abbrev pub count_keys : List Keyed → ℕ
count_keys ls = length (set.items (set.from_list {R = key_cmp} (map (λ (l : Keyed). l.key) ls)))

-- keys with equal texts, dangling entries, keys without an entry that is not retired
abbrev pub how_many : Disorder → List Keyed → ℕ
how_many Duplicates ls = count_keys ls
how_many Dangling ls = length ls
how_many Withdrawn ls = count_keys ls

abbrev pub CountsAmiss : Disorder → List Row → ℕ → Type 0
CountsAmiss way rs n = (ls : List Keyed) × AreAmiss way rs ls × (n ≡ how_many way ls)
