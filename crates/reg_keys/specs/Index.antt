-- The rows of each key.
use Rattle.std.specs.Prelude.{◌≡◌, ◌⊎◌, ◌++◌, ◌∷◌, [], ℕ, List, map, Option, Some, None}
use Rattle.std.specs.Global.{Vec}
use Rattle.std.specs.declared.cmp.Ordering.{Ordering}
use Rattle.std.specs.Ordering.{nat_cmp}
use Rattle.std.specs.Cmp.Lexicographic.{slice_cmp}
use Rattle.std.specs.BTreeMap.{BTreeMap, get}
use Rattle.crs_value.specs.Parts.{lower}
use Rattle.reg_op.specs.Rows.{Row}
use Rattle.reg_op.specs.Set.{Ascends}
use Rattle.reg_report.specs.declared.row.Row.{Row as MadeRow}
use Rattle.reg_report.specs.Conflicts.{KeyBytes, HasKey}
use Rattle.reg_report.specs.Seen.{row_seen}
use Rattle.reg_report.specs.Rows.{row_cmp}
use Rattle.reg_keys.specs.declared.index.Spelling.{Spelling}
use Rattle.reg_keys.specs.declared.index.KeyIndex.{KeyIndex}

-- the authority, a colon and the code, with letters A to Z small
abbrev pub spelling : KeyBytes → List ℕ
spelling k = lower (k.authority ++ 58 ∷ k.code)

-- the row's key is spelled so
abbrev pub IsSpelled : List ℕ → Row → Type 0
IsSpelled text r = (k : KeyBytes) × HasKey r.definition k × (spelling k ≡ text)

-- of these rows exactly those for which P holds, in their order
abbrev pub AreChosen : (Row → Type 0) → List Row → List Row → Type 0
AreChosen P [] chosen = chosen ≡ []
AreChosen P (r ∷ rs) chosen = (P r × ((rest : List Row) × (chosen ≡ r ∷ rest) × AreChosen P rs rest)) ⊎ ((¬ (P r)) × AreChosen P rs chosen)

-- ---- maps of rows

abbrev pub spelling_cmp : Spelling → Spelling → Ordering
spelling_cmp a b = slice_cmp nat_cmp a.bytes.items b.bytes.items

abbrev pub rows_in : Option (Vec MadeRow) → List Row
rows_in None = []
rows_in (Some rows) = map row_seen rows.items

-- the map has the rows of each spelling
abbrev pub Holds : BTreeMap Spelling (Vec MadeRow) → List Row → Type 0
Holds m rs = (q : Spelling) → AreChosen (IsSpelled q.bytes.items) rs (rows_in (get spelling_cmp m q))

-- an index of these rows, which are ordered by entry
pub record IsIndex (index : KeyIndex) (rs : List Row) : Type 0 where
  pub order : Ascends row_cmp rs
  pub holds : Holds index.by_key rs

-- ---- what is found

-- the rows whose keys are spelled so, by entry
pub record AreSpelled (text : List ℕ) (rs some : List Row) : Type 0 where
  pub order : Ascends row_cmp some
  pub chosen : AreChosen (IsSpelled text) rs some
