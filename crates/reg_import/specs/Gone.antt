-- Entries of an authority whose keys no text has.
use Rattle.std.specs.Prelude.{◌≡◌, ◌⊎◌, ◌↔◌, ℕ, true, IsTrue, List, [], ◌∷◌, Contains}
use Rattle.std.specs.BTreeSet.{BTreeSet, contains}
use Rattle.crs_value.specs.Parts.{IsAlike}
use Rattle.reg_op.specs.Rows.{Row}
use Rattle.reg_report.specs.Conflicts.{KeyBytes, HasKey}
use Rattle.reg_import.specs.declared.indexed_key.IndexedKey.{IndexedKey}
use Rattle.reg_import.specs.Index.{key_bytes, text_cmp}
use Rattle.reg_import.specs.Known.{stands}

-- ---- sets of keys

-- the set has exactly these keys
abbrev pub HasKeys : BTreeSet IndexedKey → List KeyBytes → Type 0
HasKeys set keys = (q : IndexedKey) → IsTrue (contains text_cmp set q) ↔ Contains keys (key_bytes q)

-- ---- entries

-- an entry that is not retired has this key, and its authority is this one, letters A to Z alike in either case
pub record IsOf (authority : List ℕ) (r : Row) (key : KeyBytes) : Type 0 where
  pub stands : stands r ≡ true
  pub keyed : HasKey r.definition key
  pub of : IsAlike authority key.authority

-- an entry of the authority that is not retired, whose key no text has
abbrev pub IsGone : List ℕ → List KeyBytes → Row → Type 0
IsGone authority texts r = (key : KeyBytes) × IsOf authority r key × ¬ (Contains texts key)

-- of some rows, those of such entries, in order
abbrev pub AreGone : List ℕ → List KeyBytes → List Row → List Row → Type 0
AreGone authority texts [] gone = gone ≡ []
AreGone authority texts (r ∷ rs) gone =
    (IsGone authority texts r × ((later : List Row) × AreGone authority texts rs later × (gone ≡ r ∷ later))) ⊎ ((¬ (IsGone authority texts r)) × AreGone authority texts rs gone)

-- ---- their keys

-- some row has the key
abbrev pub IsKeyOf : List Row → KeyBytes → Type 0
IsKeyOf rs key = (r : Row) × Contains rs r × HasKey r.definition key

-- some entry of the authority has it, and is not retired
abbrev pub IsLiveKey : List ℕ → List Row → KeyBytes → Type 0
IsLiveKey authority rs key = (r : Row) × Contains rs r × IsOf authority r key
