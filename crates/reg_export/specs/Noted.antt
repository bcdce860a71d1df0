-- The texts of each key, as they are noted row by row.
use Rattle.std.specs.Prelude.{◌≡◌, ◌≢◌, ℕ, Bool, true, false, not, ◌||◌, List, Contains, Option, Some, None, nat_eq, if◌then◌else◌}
use Rattle.std.specs.Borrow.{Bor}
use Rattle.std.specs.BTreeMap.{BTreeMap, get}
use Rattle.std.specs.Cmp.Lexicographic.{pointwise}
use Rattle.std.specs.Ordering.{is_eq}
use Rattle.reg_op.specs.Rows.{Row}
use Rattle.reg_report.specs.Conflicts.{KeyBytes, key_cmp, HasKey}
use Rattle.reg_report.specs.declared.key.KeyText.{KeyText}
use Rattle.reg_report.specs.Keys.{key_bytes, text_cmp}
use Rattle.reg_export.specs.declared.notes.TextOfKey.{TextOfKey}

-- a text of a key, and whether the key has another one
pub record Noted : Type 0 where
  pub text : List ℕ
  pub several : Bool

-- what is noted of each key
abbrev pub At : Type 0
At = KeyBytes → Option Noted

abbrev pub noted : Option TextOfKey → Option Noted
noted None = None
noted (Some n) = Some (record { text = n.text.now; several = n.several })

abbrev pub noted_behind : Option (Bor TextOfKey) → Option Noted
noted_behind None = None
noted_behind (Some n) = Some (record { text = n.now.text.now; several = n.now.several })

-- the key has several texts
abbrev pub has_several : Option Noted → Bool
has_several None = false
has_several (Some n) = n.several

-- the map has these notes
abbrev pub Holds : BTreeMap KeyText TextOfKey → At → Type 0
Holds m at = (q : KeyText) → noted (get text_cmp m q) ≡ at (key_bytes q)

-- the note of a key, after another of its texts was read
abbrev pub with_text : List ℕ → Option Noted → Noted
with_text text None = record { text = text; several = false }
with_text text (Some n) = record { text = n.text; several = n.several || not (pointwise nat_eq n.text text) }

-- the key has this note, and every other key its old one
abbrev pub with_note : KeyBytes → Noted → At → At
with_note k n at = λ l. if is_eq (key_cmp k l) then Some n else at l

-- a row has the key, and another text; or all rows of the key have the text
abbrev pub HasOthers : List Row → KeyBytes → List ℕ → Bool → Type 0
HasOthers rs k text true = (other : Row) × Contains rs other × HasKey other.definition k × (other.definition ≢ text)
HasOthers rs k text false = (r : Row) → Contains rs r → HasKey r.definition k → r.definition ≡ text

-- the note is right for the rows: without one, no row has the key; otherwise a row has the key and the text of the note
abbrev pub Tells : List Row → KeyBytes → Option Noted → Type 0
Tells rs k None = (r : Row) → Contains rs r → ¬ (HasKey r.definition k)
Tells rs k (Some n) = ((one : Row) × Contains rs one × HasKey one.definition k × (one.definition ≡ n.text)) × HasOthers rs k n.text n.several
