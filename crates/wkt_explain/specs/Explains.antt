-- The explanation of a refusal.
use Rattle.std.specs.Prelude.{ℕ, ◌+◌, List, [], ◌∷◌, ◌++◌, length, take, drop, min, codes, decimal, Option, Some, None, unwrap_or}
use Rattle.std.specs.List.{flat_map}
use Rattle.wkt_crs.specs.declared.definition.DefinitionFault.{DefinitionFault}
use Rattle.wkt_crs.specs.Definition.{fault_place}
use Rattle.wkt_explain.specs.declared.hints.Hint.{Hint}
use Rattle.wkt_explain.specs.Characters.{chars}
use Rattle.wkt_explain.specs.Position.{first_line, last_line, without_return, behind_mark, line_number, column, text_in}
use Rattle.wkt_explain.specs.Path.{path_at}
use Rattle.wkt_explain.specs.Shown.{shown_lines}
use Rattle.wkt_explain.specs.Wanted.{sentence_in}
use Rattle.wkt_explain.specs.Hints.{hint_of, hint_text}

-- the place of a fault in a text: the front, if it has none
abbrev pub told_at : List ℕ → DefinitionFault → ℕ
told_at text f = min (unwrap_or (fault_place f) 0) (length text)

-- the name of a file, a line and a column of it
abbrev pub place_words : List ℕ → ℕ → ℕ → List ℕ
place_words name line column = name ++ 58 ∷ [] ++ decimal line ++ 58 ∷ [] ++ decimal column ++ codes ": "

abbrev pub step_words : List ℕ → List ℕ
step_words word = codes " > " ++ word

-- the keywords of nodes, each in the one before
abbrev pub path_words : List (List ℕ) → List ℕ
path_words [] = []
path_words (k ∷ ks) = codes "in " ++ k ++ flat_map step_words ks ++ codes ": "

-- the last of some words, or a default if there is none
abbrev pub last_of : List ℕ → List (List ℕ) → List ℕ
last_of word [] = word
last_of word (k ∷ ks) = last_of k ks

abbrev pub hint_line : Option Hint → List ℕ
hint_line None = []
hint_line (Some h) = codes "hint: " ++ hint_text h ++ 10 ∷ []

-- the place, the nodes around it, and what is wrong; the lines that are shown; the hint
abbrev pub said : List ℕ → ℕ → ℕ → List (List ℕ) → List ℕ → List ℕ → DefinitionFault → List ℕ
said name line column path lines text f =
    place_words name line column ++ path_words path ++ sentence_in path f ++ 10 ∷ [] ++ lines ++ hint_line (hint_of text (last_of [] path) f)

-- the explanation of a fault at this place of a text, which is in a file after and before these bytes: the carriage return at the end
-- of its line is not shown
abbrev pub explained : List ℕ → List ℕ → ℕ → List ℕ → List ℕ → DefinitionFault → List ℕ
explained name text at before after f =
    said name (line_number before) (column before) (path_at (take at text)) (shown_lines (chars (last_line before)) (chars (without_return (first_line after)))) text f

-- of a text in a file, whose columns are counted behind a byte order mark
abbrev pub explanation : List ℕ → List ℕ → ℕ → ℕ → DefinitionFault → List ℕ
explanation name file start end f =
    let text = text_in file start end in
    let at = told_at text f in
    explained name text at (behind_mark (take (start + at) file)) (drop (start + at) file) f
