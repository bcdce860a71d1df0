-- Canonical texts, one after another.
use Rattle.std.specs.Prelude.{◌≡◌, ℕ, List, [], ◌∷◌, ◌++◌, map}
use Rattle.std.specs.List.{flat_map}
use Rattle.crs_value.specs.declared.crs.Crs.{Crs}
use Rattle.wkt_tree.specs.Tree.{Piece}
use Rattle.wkt_crs.specs.Spells.{canon}
use Rattle.wkt_compare.specs.Texts.{IsCutInto}

-- it is the canonical text of a reference system
abbrev pub IsCanonical : List ℕ → Type 0
IsCanonical text = (v : Crs) × (text ≡ canon v)

-- each text and a newline
abbrev pub printed : List (List ℕ) → List ℕ
printed texts = flat_map (λ text. text ++ 10 ∷ []) texts

-- a file is split into exactly these texts, at any places
abbrev pub AreFound : List ℕ → List (List ℕ) → Type 0
AreFound file texts = (cuts : List Piece) × IsCutInto file cuts × (map (λ c. c.bytes) cuts ≡ texts)
