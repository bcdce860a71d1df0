-- Statements of DOT, the language of Graphviz, in which each name and each label is between quotation marks or a word. At what these
-- graphs do not use the reader is lost: comments, and labels of HTML.
use Rattle.std.specs.Prelude.{◌≡◌, ℕ, Bool, ◌==◌, ◌||◌, List, [], ◌∷◌, ◌++◌, map, if◌then◌else◌}
use Rattle.std.specs.List.{flat_map}
use Rattle.crs_export.specs.DotQuotes.{unescaped}

-- between statements; in a statement; in a text, after these bytes of it; there after a backslash; lost
pub data Place : Type 0 where
  Between : Place
  Statement : Place
  InText : List ℕ → Place
  AfterBackslash : List ℕ → Place
  Lost : Place

-- a byte of a statement, a text in it as a label shows it, or the end of a statement
pub data Part : Type 0 where
  Byte : ℕ → Part
  Text : List ℕ → Part
  End : Part

-- what a byte adds, and the place behind it
pub record Step : Type 0 where
  pub adds : List Part
  pub place : Place

abbrev pub to : Place → Step
to p = record { adds = []; place = p }

abbrev pub before : Part → Step → Step
before p s = record { adds = p ∷ s.adds; place = s.place }

-- `/` and `#` may begin a comment, and `<` a label of HTML
abbrev pub is_unknown : ℕ → Bool
is_unknown b = (b == 47) || ((b == 35) || (b == 60))

abbrev pub is_brace : ℕ → Bool
is_brace b = (b == 123) || (b == 125)

-- a byte of a statement that is in no text of it. A semicolon ends a statement, and a brace is the last byte of one
abbrev pub in_statement : ℕ → Step
in_statement b =
    if b == 34 then to (InText []) else (
    if b == 59 then before End (to Between) else (
    if is_brace b then before (Byte b) (before End (to Between)) else (
    if is_unknown b then to Lost else before (Byte b) (to Statement))))

abbrev pub is_blank : ℕ → Bool
is_blank b = (b == 32) || (b == 10)

-- in a text, whose line ends at U+0000
abbrev pub in_text : List ℕ → ℕ → Step
in_text text b =
    if b == 34 then before (Text (unescaped text)) (to Statement) else (
    if b == 92 then to (AfterBackslash (text ++ b ∷ [])) else (
    if b == 0 then to Lost else to (InText (text ++ b ∷ []))))

abbrev pub step : Place → ℕ → Step
step Between b = if is_blank b then to Between else in_statement b
step Statement b = in_statement b
step (InText text) b = in_text text b
step (AfterBackslash text) b = if b == 0 then to Lost else to (InText (text ++ b ∷ []))
step Lost b = to Lost

-- what some bytes add from a place on, and the place behind them
abbrev pub parts_from : Place → List ℕ → List Part
parts_from p [] = []
parts_from p (b ∷ bs) = (step p b).adds ++ parts_from (step p b).place bs

abbrev pub place_after : Place → List ℕ → Place
place_after p [] = p
place_after p (b ∷ bs) = place_after (step p b).place bs

abbrev pub ended : List Part → List Part
ended statement = statement ++ End ∷ []

-- these bytes are these statements
pub record AreStatements (bytes : List ℕ) (statements : List (List Part)) : Type 0 where
  pub read : parts_from Between bytes ≡ flat_map ended statements
  pub whole : place_after Between bytes ≡ Between

-- bytes as parts of a statement
abbrev pub code : List ℕ → List Part
code bytes = map Byte bytes
