-- The texts of a page in its order: those that keep their lines.
use Rattle.std.specs.Prelude.{ℕ, List, [], ◌∷◌, ◌++◌, map, Option, Some, None}
use Rattle.std.specs.List.{flat_map}
use Rattle.html_page.specs.Pieces.{Piece, Markup, Text, Lines, Short, Attribute, Numeral}
use Rattle.html_page.specs.Shown.{Entry, Word, Side, Pair, Conflict, Shown}

abbrev pub text_in : Piece → List (List ℕ)
text_in (Markup constant) = []
text_in (Text text) = []
text_in (Lines text) = text ∷ []
text_in (Short text) = []
text_in (Attribute text) = []
text_in (Numeral text) = []

-- the texts of some pieces
abbrev pub texts : List Piece → List (List ℕ)
texts ps = flat_map text_in ps

abbrev pub side_texts : Side → List (List ℕ)
side_texts s = map (λ (w : Word). w.text) s.words

abbrev pub pair_texts : Pair → List (List ℕ)
pair_texts p = side_texts p.first ++ side_texts p.second

abbrev pub conflict_texts : Conflict → List (List ℕ)
conflict_texts c = flat_map pair_texts c.pairs

-- the text of a row, and then its questions, unless they are in another row
abbrev pub texts_unless : Option (List ℕ) → Entry → List (List ℕ)
texts_unless None e = e.text ∷ e.questions
texts_unless (Some id) e = []

abbrev pub row_texts : Entry → List (List ℕ)
row_texts e = texts_unless e.same_text_as e

abbrev pub entry_texts : List Entry → List (List ℕ)
entry_texts es = flat_map row_texts es

-- the words of each side of each pair, the texts of each row, and those of each row of a retired entry
abbrev pub shown_texts : Shown → List (List ℕ)
shown_texts s = flat_map conflict_texts s.conflicts ++ entry_texts s.entries ++ entry_texts s.retired
