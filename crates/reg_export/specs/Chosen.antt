-- The rows that are handed on: those whose keys have one text.
use Rattle.std.specs.Prelude.{◌≡◌, ◌≢◌, ◌⊎◌, false, List, [], ◌∷◌, Contains, Option, Some, None}
use Rattle.std.specs.declared.cmp.Ordering.{Ordering}
use Rattle.std.specs.Ordering.{ordering_then, is_lt}
use Rattle.reg_op.specs.Ids.{Id, id_cmp}
use Rattle.reg_op.specs.Rows.{Row}
use Rattle.reg_report.specs.Conflicts.{KeyBytes, key_cmp, HasKey}

-- another of the rows has the key of the row, and another text
pub record IsContested (rs : List Row) (r : Row) : Type 0 where
  pub other : Row
  pub there : Contains rs other
  pub key : KeyBytes
  pub own : HasKey r.definition key
  pub its : HasKey other.definition key
  pub differ : other.definition ≢ r.definition

-- of some of the rows, those that are not contested, in order
abbrev pub AreUncontested : List Row → List Row → List Row → Type 0
AreUncontested all [] kept = kept ≡ []
AreUncontested all (r ∷ some) kept =
    ((¬ (IsContested all r)) × ((later : List Row) × AreUncontested all some later × (kept ≡ r ∷ later))) ⊎ (IsContested all r × AreUncontested all some kept)

-- rows are ordered by key, and then by id
pub record KeyThenEntry : Type 0 where
  pub key : KeyBytes
  pub entry : Id

abbrev pub place_cmp : KeyThenEntry → KeyThenEntry → Ordering
place_cmp a b = ordering_then (key_cmp a.key b.key) (id_cmp a.entry b.entry)

abbrev pub IsPlaceOf : Row → KeyThenEntry → Type 0
IsPlaceOf r p = HasKey r.definition p.key × (p.entry ≡ r.entry)

-- the entry of a contested row, and no contested row has a lesser place
pub record IsLeast (all some : List Row) (least : KeyThenEntry) : Type 0 where
  pub row : Row
  pub there : Contains some row
  pub contested : IsContested all row
  pub placed : IsPlaceOf row least
  pub first : (r : Row) (p : KeyThenEntry) → Contains some r → IsContested all r → IsPlaceOf r p → is_lt (place_cmp p least) ≡ false

-- the least entry of the least key that has two texts, if there is such a key
abbrev pub IsTaken : List Row → Option Id → Type 0
IsTaken rs None = (r : Row) → Contains rs r → ¬ (IsContested rs r)
IsTaken rs (Some id) = (least : KeyThenEntry) × IsLeast rs rs least × (least.entry ≡ id)

-- of these rows, those that are handed on, and the entry that names the first key with two texts
pub record AreChosen (found rows : List Row) (least : Option Id) : Type 0 where
  pub kept : AreUncontested found found rows
  pub taken : IsTaken found least
