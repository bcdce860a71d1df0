-- A text that is read back as a tree.
use Rattle.std.specs.Prelude.{◌≡◌, ℕ, List, IsUtf8}
use Rattle.wkt_tree.specs.Tree.{Item, tokens, Within}
use Rattle.wkt_tree.specs.Tokens.{Cut}
use Rattle.wkt_grammar.specs.Bare.{Bare, bare}

-- the text is UTF-8, and cut into the tokens of an item that is this tree apart from places
pub record ReadsAs (text : List ℕ) (t : Bare) : Type 0 where
  pub utf8 : IsUtf8 text
  pub item : Item
  pub is : bare item ≡ t
  pub within : Within 16 item
  pub cut : Cut 0 text (tokens item)
