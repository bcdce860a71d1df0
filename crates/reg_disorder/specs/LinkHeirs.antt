-- The heir of an entry: the one that stays in its place.
use Rattle.std.specs.Prelude.{◌≡◌, ◌≢◌, ◌⊎◌, ℕ, true, false, List, [], ◌∷◌, Contains, map, Option, Some, None}
use Rattle.std.specs.Borrow.{Bor}
use Rattle.std.specs.BTreeMap.{BTreeMap, get}
use Rattle.std.specs.Cmp.Lexicographic.{slice_cmp}
use Rattle.std.specs.Ordering.{nat_cmp}
use Rattle.std.specs.declared.cmp.Ordering.{Ordering}
use Rattle.reg_op.specs.Ids.{Id}
use Rattle.reg_op.specs.Operations.{Ops}
use Rattle.reg_op.specs.Rows.{Row, rows}
use Rattle.reg_op.specs.Set.{Ascends}
use Rattle.reg_op.specs.declared.status.Status.TheVariants.{Retired}
use Rattle.reg_report.specs.Conflicts.{KeyBytes, HasKey}
use Rattle.reg_report.specs.declared.row.Row.{Row as MadeRow}
use Rattle.reg_report.specs.Rows.{row_cmp}
use Rattle.reg_report.specs.Seen.{row_seen}
use Rattle.reg_report.specs.declared.key.KeyText.{KeyText}
use Rattle.reg_report.specs.Keys.{key_bytes, text_cmp}
use Rattle.reg_disorder.specs.declared.linking.heir.Heirs.{Heirs}
use Rattle.reg_disorder.specs.Links.{stands}

-- the entry of the first row for which P holds, if there is one. Rows ascend by entry, so it is the least
abbrev pub IsFirst : (Row → Type 0) → List Row → Option Id → Type 0
IsFirst P [] first = first ≡ None
IsFirst P (r ∷ rs) first = (P r × (first ≡ Some r.entry)) ⊎ ((¬ (P r)) × IsFirst P rs first)

-- the entry is not retired and has this text; or has this key
pub record HasText (text : List ℕ) (r : Row) : Type 0 where
  pub stands : r.status ≢ Some Retired
  pub is : r.definition ≡ text

pub record IsOfKey (k : KeyBytes) (r : Row) : Type 0 where
  pub stands : r.status ≢ Some Retired
  pub keyed : HasKey r.definition k

-- of the entries that are not retired, the least with the row's text; if none has it, the least with its key
abbrev pub IsNextTo : List Row → Row → Id → Type 0
IsNextTo rs r heir = IsFirst (HasText r.definition) rs (Some heir)
    ⊎ (IsFirst (HasText r.definition) rs None × ((k : KeyBytes) × HasKey r.definition k × IsFirst (IsOfKey k) rs (Some heir)))

-- the same of the row of an entry
pub record Follows (rs : List Row) (entry heir : Id) : Type 0 where
  pub row : Row
  pub there : Contains rs row
  pub is : row.entry ≡ entry
  pub next : IsNextTo rs row heir

-- an entry that is not retired is its own heir
abbrev pub IsHeir : Ops → Id → Id → Type 0
IsHeir s entry heir = ((stands s entry ≡ true) × (heir ≡ entry)) ⊎ ((stands s entry ≡ false) × Follows (rows s) entry heir)

-- ---- maps of the least entries

abbrev pub bytes_cmp : Bor (List ℕ) → Bor (List ℕ) → Ordering
bytes_cmp a b = slice_cmp nat_cmp a.now b.now

abbrev pub entry_in : Option (Bor MadeRow) → Option Id
entry_in None = None
entry_in (Some r) = Some (row_seen r.now).entry

-- for each text, the least entry that is not retired; and for each key
abbrev pub HasTexts : BTreeMap (Bor (List ℕ)) (Bor MadeRow) → List Row → Type 0
HasTexts m rs = (q : Bor (List ℕ)) → IsFirst (HasText q.now) rs (entry_in (get bytes_cmp m q))

abbrev pub HasKeys : BTreeMap KeyText (Bor MadeRow) → List Row → Type 0
HasKeys m rs = (q : KeyText) → IsFirst (IsOfKey (key_bytes q)) rs (entry_in (get text_cmp m q))

abbrev pub rows_in : Heirs → List Row
rows_in h = map row_seen h.rows.now

-- the maps of some rows, which ascend by entry
pub record AreHeirs (h : Heirs) : Type 0 where
  pub order : Ascends row_cmp (rows_in h)
  pub texts : HasTexts h.texts (rows_in h)
  pub keys : HasKeys h.keys (rows_in h)
