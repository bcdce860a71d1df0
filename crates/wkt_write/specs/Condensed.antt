-- Texts without some of their blanks.
use Rattle.std.specs.Prelude.{◌≡◌, ℕ, Bool, true, List, [], ◌∷◌, ◌++◌, ◌==◌, ◌||◌, if◌then◌else◌, ◌⊎◌}
use Rattle.wkt_tree.specs.Bytes.{is_blank}
use Rattle.wkt_tree.specs.Tokens.{is_mark}
use Rattle.wkt_write.specs.Alike.{SameNumber}

-- a comma or a square bracket
abbrev pub is_delimiter : ℕ → Bool
is_delimiter b = b == 44 || b == 91 || b == 93

-- the context of a place in a text: after a delimiter or the start, blanks aside; inside a quoted text; or anything else
pub data Before : Type 0 where
  delimiter : Before
  quotation : Before
  other : Before

-- the context of the next place
abbrev pub next : Before → ℕ → Before
next quotation b = if is_mark b then other else quotation
next delimiter b = if is_mark b then quotation else (if is_delimiter b then delimiter else (if is_blank b then delimiter else other))
next other b = if is_mark b then quotation else (if is_delimiter b then delimiter else other)

-- a delimiter or the end follows, blanks aside
abbrev pub Shuts : List ℕ → Type 0
Shuts [] = Unit {0}
Shuts (b ∷ bs) = (is_delimiter b ≡ true) ⊎ ((is_blank b ≡ true) × Shuts bs)

-- a blank before these bytes may be left out: it is outside quoted texts, and next to a delimiter or an end, blanks aside
abbrev pub MayGo : Before → List ℕ → Type 0
MayGo delimiter bs = Unit {0}
MayGo quotation bs = ⊥
MayGo other bs = Shuts bs

-- the other bytes are the bytes without some blanks that may be left out, and with another spelling of some numerals between
-- delimiters
pub data Condenses : Before → List ℕ → List ℕ → Type 0 where
  done : {p : Before} → Condenses p [] []
  keep : {p : Before} {bs cs : List ℕ} (b : ℕ) → Condenses (next p b) bs cs → Condenses p (b ∷ bs) (b ∷ cs)
  leave : {p : Before} {bs cs : List ℕ} (b : ℕ) → is_blank b ≡ true → MayGo p bs → Condenses p bs cs → Condenses p (b ∷ bs) cs
  respell : {bs cs : List ℕ} (n m : List ℕ) → SameNumber m n → Shuts bs → Condenses other bs cs → Condenses delimiter (n ++ bs) (m ++ cs)

-- the other text is the text without some blanks that may be left out, and with another spelling of some numerals
abbrev pub IsCondensed : List ℕ → List ℕ → Type 0
IsCondensed text condensed = Condenses delimiter text condensed
