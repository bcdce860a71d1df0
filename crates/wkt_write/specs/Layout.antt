-- The text of a tree in a layout: on one line, or indented.
use Rattle.std.specs.Prelude.{ℕ, ◌+◌, List, [], ◌∷◌, ◌++◌}
use Rattle.wkt_grammar.specs.Bare.{Bare, Bares, text, number, word, node, none, and, bares}
use Rattle.wkt_grammar.specs.Render.{new_line}
use Rattle.wkt_write.specs.declared.layout.Layout as layouts
use Rattle.wkt_write.specs.declared.layout.Layout.TheVariants.{OneLine, Root, Inside}

-- the newline and margin before the keyword of a node
abbrev pub before : layouts.Layout → List ℕ
before OneLine = []
before Root = []
before (Inside depth) = new_line depth

-- the layout of a node's arguments
abbrev pub inner : layouts.Layout → layouts.Layout
inner OneLine = OneLine
inner Root = Inside 1
inner (Inside depth) = Inside (depth + 1)

unfoldable mutual
  pub laid : layouts.Layout → Bare → List ℕ
  laid layout (text b) = b
  laid layout (number b) = b
  laid layout (word b) = b
  laid layout (node k xs) = before layout ++ (k ++ (91 ∷ (laid_all (inner layout) xs ++ (93 ∷ []))))

  pub laid_all : layouts.Layout → Bares → List ℕ
  laid_all layout none = []
  laid_all layout (and i r) = laid layout i ++ laid_behind layout r

  -- after an item, each further one after a comma
  pub laid_behind : layouts.Layout → Bares → List ℕ
  laid_behind layout none = []
  laid_behind layout (and i r) = 44 ∷ (laid layout i ++ laid_behind layout r)

-- the text of arguments after the first
unfoldable pub behind : layouts.Layout → List Bare → List ℕ
behind layout xs = laid_behind layout (bares xs)
