-- What differs between the texts of entries.
use Rattle.std.specs.Prelude.{◌≡◌, ◌≢◌, ◌⊎◌, ℕ, List, [], ◌∷◌, ◌++◌, map, Option, Some, None, codes}
use Rattle.std.specs.Borrow.{Bor}
use Rattle.std.specs.Global.{Vec}
use Rattle.crs_value.specs.declared.crs.Crs.{Crs}
use Rattle.wkt_crs.specs.Spells.{pretty}
use Rattle.wkt_crs.specs.Definition.{IsCrsOf}
use Rattle.wkt_compare.specs.Hunks.{IsUnified}
use Rattle.reg_op.specs.Ids.{Id}
use Rattle.reg_op.specs.Text.{printed}
use Rattle.reg_op.specs.Contents.{Content}
use Rattle.reg_op.specs.Rows.{Row, rows}
use Rattle.reg_report.specs.declared.row.Row.{Row as MadeRow}
use Rattle.reg_report.specs.Conflicts.{KeyBytes, HasKey}
use Rattle.reg_report.specs.Lines.{status_word}
use Rattle.reg_report.specs.Rows.{HasRow}
use Rattle.reg_report.specs.Seen.{row_seen}
use Rattle.reg_keys.specs.Named.{Answers}
use Rattle.reg_texts.specs.declared.compare.Uncompared.{Uncompared}
use Rattle.reg_texts.specs.declared.compare.Uncompared.TheVariants as why
use Rattle.reg_texts.specs.declared.version.Version.{Version}
use Rattle.reg_texts.specs.Listing.{key_text}
use Rattle.reg_texts.specs.Gathered.{Each}

-- ---- two texts

-- the key, the id and the status of an entry
pub record IsHeadOf (r : Row) (head : List ℕ) : Type 0 where
  pub key : KeyBytes
  pub keyed : HasKey r.definition key
  pub is : head ≡ key_text key ++ (32 ∷ (printed r.entry ++ (32 ∷ status_word r.status)))

-- the indented text of an entry, under its head
pub record IsVersionOf (r : Row) (v : Version) : Type 0 where
  pub headed : IsHeadOf r v.head.items
  pub crs : Crs
  pub of : IsCrsOf crs r.definition
  pub text : v.text.items ≡ pretty crs

-- both heads above the hunks, if there are some
abbrev pub IsHeaded : Version → Version → List ℕ → List ℕ → Type 0
IsHeaded one other hunks pair =
    ((hunks ≡ []) × (pair ≡ [])) ⊎ ((hunks ≢ []) × (pair ≡ (codes "--- " ++ one.head.items ++ 10 ∷ []) ++ (codes "+++ " ++ other.head.items ++ 10 ∷ []) ++ hunks))

-- the unified diff of two texts, under their heads: nothing exactly if the texts are equal
pub record IsPair (one other : Version) (pair : List ℕ) : Type 0 where
  pub hunks : List ℕ
  pub differ : IsUnified one.text.items other.text.items hunks
  pub heads : IsHeaded one other hunks pair

-- the same of the texts of two entries
abbrev pub IsPairOf : Row → Row → List ℕ → Type 0
IsPairOf one other pair = (v : Version) × (w : Version) × IsVersionOf one v × IsVersionOf other w × IsPair v w pair

-- ---- two entries

abbrev pub IsCompared : Id → Id → Content → List ℕ → Type 0
IsCompared i j x text = (one : Row) × (other : Row) × HasRow (rows x.ops) i one × HasRow (rows x.ops) j other × IsPairOf one other text

-- the key, the id and the status of an entry
abbrev pub IsHeading : Id → Content → List ℕ → Type 0
IsHeading i x head = (r : Row) × HasRow (rows x.ops) i r × IsHeadOf r head

-- one of the two is not an entry; or memory ran out
abbrev pub IsUncompared : Id → Id → Content → Uncompared → Type 0
IsUncompared i j x (why.UnknownEntry id) = ((id ≡ i) ⊎ (id ≡ j)) × ((r : Row) → ¬ (HasRow (rows x.ops) id r))
IsUncompared i j x why.Memory = Unit {0}

-- ---- the entries of a key

abbrev pub seen_rows : List (Bor MadeRow) → List Row
seen_rows rs = map (λ (r : Bor MadeRow). row_seen r.now) rs

-- the row, if P holds for it
abbrev pub IsChosen : (Row → Type 0) → Row → List Row → Type 0
IsChosen P r mine = (P r × (mine ≡ r ∷ [])) ⊎ ((¬ (P r)) × (mine ≡ []))

-- the first of some entries against each of the others, in order; there is no text without one
abbrev pub IsFirstAgainst : List Row → Option (Vec ℕ) → Type 0
IsFirstAgainst [] None = Unit {0}
IsFirstAgainst [] (Some text) = ⊥
IsFirstAgainst (r ∷ rs) None = ⊥
IsFirstAgainst (r ∷ rs) (Some text) = Each (IsPairOf r) rs text.items

-- of the entries of the key that are not retired, by id, the first against each of the others
abbrev pub IsKeyCompared : List ℕ → Content → Option (Vec ℕ) → Type 0
IsKeyCompared key x text = (found : List Row) × Each (IsChosen (Answers key)) (rows x.ops) found × IsFirstAgainst found text
