-- Lists of rows' entries.
use Rattle.std.specs.Prelude.{◌≡◌, Bool, true, false, List, [], ◌∷◌, ◌++◌, Contains}
use Rattle.reg_op.specs.Rows.{Row}
use Rattle.reg_report.specs.Conflicts.{KeyBytes, HasKey}
use Rattle.reg_disorder.specs.declared.listed.ListedEntry.{ListedEntry}
use Rattle.reg_disorder.specs.Disorders.{Keyed}

abbrev pub key_seen : ListedEntry → KeyBytes
key_seen l = record { authority = l.authority.bytes; code = l.code.bytes }

abbrev pub listed_seen : ListedEntry → Keyed
listed_seen l = record { key = key_seen l; entry = l.entry }

-- it has the entry and the key of the row
pub record IsLineOf (r : Row) (l : Keyed) : Type 0 where
  pub key : HasKey r.definition l.key
  pub entry : r.entry ≡ l.entry

-- the row's entry is added at the end if it is wanted
abbrev pub Adds : Bool → Row → List Keyed → List Keyed → Type 0
Adds true r old new = (l : Keyed) × IsLineOf r l × (new ≡ old ++ l ∷ [])
Adds false r old new = new ≡ old

-- one for each row of which P holds, in any order
pub record AreOf (P : Row → Type 0) (rs : List Row) (ls : List Keyed) : Type 0 where
  pub each : (l : Keyed) → Contains ls l → (r : Row) × Contains rs r × P r × IsLineOf r l
  pub all : (r : Row) → Contains rs r → P r → (l : Keyed) × Contains ls l × IsLineOf r l
