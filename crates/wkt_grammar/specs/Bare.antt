-- Trees without places and delimiters.
use Rattle.std.specs.Prelude.{ℕ, List, [], ◌∷◌}
use Rattle.wkt_tree.specs.Tree.{Item, Items, last, more}
use Rattle.wkt_tree.specs.Tree as tree
use Rattle.wkt_grammar.specs.declared.table.Argument.{Argument}
use Rattle.wkt_grammar.specs.declared.table.Argument.TheVariants as arguments
use Rattle.wkt_grammar.specs.Slots.{number_argument, word_argument, node_argument}

-- an item is a quoted text, a number, a word, or a node with its arguments
mutual
  pub data Bare : Type 0 where
    text : List ℕ → Bare
    number : List ℕ → Bare
    word : List ℕ → Bare
    node : List ℕ → Bares → Bare

  pub data Bares : Type 0 where
    none : Bares
    and : Bare → Bares → Bares

-- the arguments of a node, as a list, and back
abbrev pub args : Bares → List Bare
args none = []
args (and i r) = i ∷ args r

abbrev pub bares : List Bare → Bares
bares [] = none
bares (i ∷ r) = and i (bares r)

-- a tree without places and delimiters
abbrev mutual
  pub bare : Item → Bare
  bare (tree.text p) = text p.bytes
  bare (tree.number p) = number p.bytes
  bare (tree.word p) = word p.bytes
  bare (tree.node k d o items c) = node k.bytes (all_bare items)

  pub all_bare : Items → Bares
  all_bare (last i) = and (bare i) none
  all_bare (more i c rest) = and (bare i) (all_bare rest)

-- its kind as an argument
abbrev pub shape : Bare → Argument
shape (text b) = arguments.Text
shape (number b) = number_argument b
shape (word b) = word_argument b
shape (node k xs) = node_argument k
