-- The text of a tree: canonical, and indented.
use Rattle.std.specs.Prelude.{ℕ, suc, ◌*◌, List, [], ◌∷◌, ◌++◌, replicate}
use Rattle.wkt_grammar.specs.Bare.{Bare, Bares, text, number, word, node, none, and}

abbrev mutual
  -- square brackets, one comma between two items, no blanks
  pub render : Bare → List ℕ
  render (text b) = b
  render (number b) = b
  render (word b) = b
  render (node k xs) = k ++ (91 ∷ (render_all xs ++ (93 ∷ [])))

  pub render_all : Bares → List ℕ
  render_all none = []
  render_all (and i r) = render i ++ render_behind r

  -- after an item, each further one after a comma
  pub render_behind : Bares → List ℕ
  render_behind none = []
  render_behind (and i r) = 44 ∷ (render i ++ render_behind r)

-- a line feed, and four spaces for each node around
abbrev pub new_line : ℕ → List ℕ
new_line depth = 10 ∷ replicate (4 * depth) 32

abbrev mutual
  -- the same, with a newline before the keyword of each node inside this many others
  pub indent : ℕ → Bare → List ℕ
  indent depth (text b) = b
  indent depth (number b) = b
  indent depth (word b) = b
  indent depth (node k xs) = new_line depth ++ (k ++ (91 ∷ (indent_all (suc depth) xs ++ (93 ∷ []))))

  pub indent_all : ℕ → Bares → List ℕ
  indent_all depth none = []
  indent_all depth (and i r) = indent depth i ++ indent_behind depth r

  pub indent_behind : ℕ → Bares → List ℕ
  indent_behind depth none = []
  indent_behind depth (and i r) = 44 ∷ (indent depth i ++ indent_behind depth r)

-- the root begins no new line
abbrev pub indented : Bare → List ℕ
indented (text b) = b
indented (number b) = b
indented (word b) = b
indented (node k xs) = k ++ (91 ∷ (indent_all 1 xs ++ (93 ∷ [])))
