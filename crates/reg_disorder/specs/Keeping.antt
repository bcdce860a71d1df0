-- The row of each key that is kept, and the rows that may be retired.
use Rattle.std.specs.Prelude.{◌≡◌, ◌≢◌, ◌⊎◌, Bool, List, [], ◌∷◌, ◌++◌, Contains, map, filter, Option, Some, None, if◌then◌else◌}
use Rattle.std.specs.Borrow.{Bor}
use Rattle.std.specs.BTreeMap.{BTreeMap, get}
use Rattle.std.specs.List.Sorted.{IsSorted}
use Rattle.std.specs.Ordering.{is_eq}
use Rattle.std.specs.declared.cmp.Ordering.{Ordering}
use Rattle.reg_op.specs.Ids.{Id}
use Rattle.reg_op.specs.Rows.{Row}
use Rattle.reg_op.specs.declared.status.Status.TheVariants.{Retired}
use Rattle.reg_report.specs.declared.row.Row.{Row as MadeRow}
use Rattle.reg_report.specs.declared.key.KeyText.{KeyText}
use Rattle.reg_report.specs.Conflicts.{KeyBytes, key_cmp, HasKey}
use Rattle.reg_report.specs.Keys.{key_bytes, text_cmp}
use Rattle.reg_report.specs.Seen.{row_seen}
use Rattle.reg_disorder.specs.declared.settling.rival.Rival.{Rival}

-- ---- the rows that are kept

-- for each key, the row that was kept last, if there is one
abbrev pub At : Type 0
At = KeyBytes → Option Row

abbrev pub seen_in : Option (Bor MadeRow) → Option Row
seen_in None = None
seen_in (Some r) = Some (row_seen r.now)

-- the map has these rows
abbrev pub Holds : BTreeMap KeyText (Bor MadeRow) → At → Type 0
Holds m at = (q : KeyText) → seen_in (get text_cmp m q) ≡ at (key_bytes q)

-- the key has this row, and every other key its old one
abbrev pub with_row : KeyBytes → Row → At → At
with_row k r at = λ l. if is_eq (key_cmp k l) then Some r else at l

-- ---- the rows that may be retired

abbrev pub entry_of : Rival → Id
entry_of c = (row_seen (c.row).now).entry

abbrev pub is_of_key : KeyBytes → Rival → Bool
is_of_key k c = is_eq (key_cmp k (key_bytes c.key))

abbrev pub rival_cmp : Rival → Rival → Ordering
rival_cmp a b = text_cmp a.key b.key

-- the entry of the row is neither retired nor kept
pub record MayGo (keeps : List Id) (r : Row) : Type 0 where
  pub stands : r.status ≢ Some Retired
  pub no_keep : ¬ (Contains keeps r.entry)

-- it has the row's entry and key
pub record IsOfRow (r : Row) (c : Rival) : Type 0 where
  pub entry : entry_of c ≡ r.entry
  pub keyed : HasKey r.definition (key_bytes c.key)

-- the rival of a row is added at the end, if the row may go
abbrev pub AddsRival : List Id → Row → List Rival → List Rival → Type 0
AddsRival keeps r old new = (MayGo keeps r × ((c : Rival) × IsOfRow r c × (new ≡ old ++ c ∷ []))) ⊎ ((¬ (MayGo keeps r)) × (new ≡ old))

-- the rivals of the rows, in their order
abbrev pub AreRivals : List Id → List Row → List Rival → Type 0
AreRivals keeps [] cs = cs ≡ []
AreRivals keeps (r ∷ rs) cs = (MayGo keeps r × ((c : Rival) × (later : List Rival) × IsOfRow r c × AreRivals keeps rs later × (cs ≡ c ∷ later))) ⊎ ((¬ (MayGo keeps r)) × AreRivals keeps rs cs)

-- the same, sorted by key, where those of one key are in the order of the rows
pub record AreRivalsByKey (keeps : List Id) (rs : List Row) (cs : List Rival) : Type 0 where
  pub sorted : IsSorted rival_cmp cs
  pub all : List Rival
  pub are : AreRivals keeps rs all
  pub in_order : (c : Rival) → filter (is_of_key (key_bytes c.key)) cs ≡ filter (is_of_key (key_bytes c.key)) all

-- ---- the rows that a kept row retires

-- the rivals of its key, if it is the first kept row of the key; otherwise nothing, and both have one text
abbrev pub Retires : Option Row → Row → List Rival → List Id → List Id → Type 0
Retires None keep mine old new = new ≡ old ++ map entry_of mine
Retires (Some r) keep mine old new = (r.definition ≡ keep.definition) × (new ≡ old)

-- a row of the key was kept before, with another text
abbrev pub IsOther : Option Row → Row → Type 0
IsOther None keep = ⊥
IsOther (Some r) keep = r.definition ≢ keep.definition
