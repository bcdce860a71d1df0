-- Statements of SQL, as SQLite reads them. At what these texts do not use the reader is lost: names between marks, comments within a
-- statement, and those between `/*` and `*/`.
use Rattle.std.specs.Prelude.{◌≡◌, ℕ, Bool, true, not, ◌==◌, ◌||◌, List, [], ◌∷◌, ◌++◌, map, if◌then◌else◌}
use Rattle.std.specs.List.{flat_map, list_all}

-- between statements; there after a `-`; in a comment, which ends with its line; in a statement; there after a `-`; in a text, after
-- these bytes of it; behind a mark in a text, which ends it unless another mark follows; lost
pub data Place : Type 0 where
  Between : Place
  BeforeComment : Place
  Comment : Place
  Statement : Place
  AfterMinus : Place
  InText : List ℕ → Place
  AfterMark : List ℕ → Place
  Lost : Place

-- a byte of a statement, a text in it, or its end
pub data Part : Type 0 where
  Byte : ℕ → Part
  Text : List ℕ → Part
  End : Part

-- what a byte adds, and the place behind it
pub record Step : Type 0 where
  pub adds : List Part
  pub place : Place

abbrev pub to : Place → Step
to p = record { adds = []; place = p }

abbrev pub before : Part → Step → Step
before p s = record { adds = p ∷ s.adds; place = s.place }

-- `"`, `[` and a grave accent begin a name, and `/` may begin a comment
abbrev pub is_unknown : ℕ → Bool
is_unknown b = (b == 34) || ((b == 91) || ((b == 96) || (b == 47)))

-- a byte of a statement that is in no text of it
abbrev pub in_statement : ℕ → Step
in_statement b =
    if b == 39 then to (InText []) else (
    if b == 59 then before End (to Between) else (
    if b == 45 then to AfterMinus else (
    if is_unknown b then to Lost else before (Byte b) (to Statement))))

abbrev pub is_blank : ℕ → Bool
is_blank b = (b == 32) || (b == 10)

abbrev pub step : Place → ℕ → Step
step Between b = if is_blank b then to Between else (if b == 45 then to BeforeComment else in_statement b)
step BeforeComment b = if b == 45 then to Comment else to Lost
step Comment b = if b == 10 then to Between else to Comment
step Statement b = in_statement b
step AfterMinus b = if b == 45 then to Lost else before (Byte 45) (in_statement b)
step (InText text) b = if b == 39 then to (AfterMark text) else to (InText (text ++ b ∷ []))
step (AfterMark text) b = if b == 39 then to (InText (text ++ b ∷ [])) else before (Text text) (in_statement b)
step Lost b = to Lost

-- what some bytes add from a place on, and the place behind them
abbrev pub parts_from : Place → List ℕ → List Part
parts_from p [] = []
parts_from p (b ∷ bs) = (step p b).adds ++ parts_from (step p b).place bs

abbrev pub place_after : Place → List ℕ → Place
place_after p [] = p
place_after p (b ∷ bs) = place_after (step p b).place bs

abbrev pub has_no_null : List ℕ → Bool
has_no_null bytes = list_all (λ b. not (b == 0)) bytes

abbrev pub ended : List Part → List Part
ended statement = statement ++ End ∷ []

-- these bytes are these statements, and comments. A reader ends at U+0000, so there is none
pub record AreStatements (bytes : List ℕ) (statements : List (List Part)) : Type 0 where
  pub no_null : has_no_null bytes ≡ true
  pub read : parts_from Between bytes ≡ flat_map ended statements
  pub whole : place_after Between bytes ≡ Between

-- bytes as parts of a statement
abbrev pub code : List ℕ → List Part
code bytes = map Byte bytes
