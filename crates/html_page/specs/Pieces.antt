-- A page as a list of pieces.
use Rattle.std.specs.Prelude.{◌≡◌, ◌++◌, ℕ, List, []}
use Rattle.std.specs.List.{flat_map}
use Rattle.html_page.specs.declared.marks.Feeds.TheVariants.{Marked, Kept}
use Rattle.html_page.specs.declared.pieces.PagePiece.{PagePiece as Declared}
use Rattle.html_page.specs.declared.pieces.PagePiece.TheVariants as declared
use Rattle.html_page.specs.Escaped.{escaped}
use Rattle.html_page.specs.Marks.{marked}
use Rattle.html_page.specs.Short.{short}

-- a constant of the program; a text between tags: on one line, with its line feeds, or shortened; a text in an id or in a link
-- within the page; a numeral in a drawing
pub data Piece : Type 0 where
  Markup : List ℕ → Piece
  Text : List ℕ → Piece
  Lines : List ℕ → Piece
  Short : List ℕ → Piece
  Attribute : List ℕ → Piece
  Numeral : List ℕ → Piece

unfoldable pub bytes_of : Piece → List ℕ
bytes_of (Markup constant) = constant
bytes_of (Text text) = escaped (marked Marked text)
bytes_of (Lines text) = escaped (marked Kept text)
bytes_of (Short text) = short text
bytes_of (Attribute text) = escaped (marked Marked text)
bytes_of (Numeral text) = escaped (marked Marked text)

-- the bytes of a page
unfoldable pub html : List Piece → List ℕ
html pieces = flat_map bytes_of pieces

-- the page had the old bytes, and has the pieces after them
pub record Appends (old new : List ℕ) (pieces : List Piece) : Type 0 where
  pub is : new ≡ old ++ html pieces

-- the piece without its text
abbrev pub blank : Piece → Piece
blank (Markup constant) = Markup constant
blank (Text text) = Text []
blank (Lines text) = Lines []
blank (Short text) = Short []
blank (Attribute text) = Attribute []
blank (Numeral text) = Numeral []

-- a piece of the program, as contracts see it
abbrev pub seen : Declared → Piece
seen (declared.Markup constant) = Markup constant.now
seen (declared.Text text) = Text text.now
seen (declared.Lines text) = Lines text.now
seen (declared.Short text) = Short text.now
seen (declared.Attribute text) = Attribute text.now
seen (declared.Numeral text) = Numeral text.now
