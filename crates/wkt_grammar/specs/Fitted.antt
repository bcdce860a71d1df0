-- Trees whose nodes all have arguments that fit their rows.
use Rattle.std.specs.Prelude.{◌≡◌, List, [], ◌∷◌, ◌++◌, length, map, Option, Some, true, option_and_then}
use Rattle.wkt_grammar.specs.declared.table.Node.{Node}
use Rattle.wkt_grammar.specs.declared.table.Keyword.{Keyword}
use Rattle.wkt_grammar.specs.declared.table.Takes.{Takes}
use Rattle.wkt_grammar.specs.declared.table.Edition.{Edition}
use Rattle.wkt_grammar.specs.declared.table.Slot.{Slot}
use Rattle.wkt_grammar.specs.Rows.{Fits, Times, row_of, enters, takes}
use Rattle.wkt_grammar.specs.Words.{keyword_of}
use Rattle.wkt_grammar.specs.First.{row_by}
use Rattle.wkt_grammar.specs.Bare.{Bare, Bares, text, number, word, node, none, and, args, shape}

-- the row that a slot of this kind gives a node with this keyword
abbrev pub entered : Takes → Option Keyword → Option Node
entered t k = option_and_then (enters t) k

module _ (e : Edition) where
  abbrev mutual
    -- if an argument of this row is a node with a row, its arguments fit that row, at every level
    pub Inside : Node → Bare → Type 0
    Inside n (text b) = Unit {0}
    Inside n (number b) = Unit {0}
    Inside n (word b) = Unit {0}
    Inside n (node k xs) = (m : Node) → row_by e n (keyword_of k) ≡ Some m → Fits (row_of e m) (map shape (args xs)) × AllInside m xs

    pub AllInside : Node → Bares → Type 0
    AllInside n none = Unit {0}
    AllInside n (and x xs) = Inside n x × AllInside n xs

  -- the arguments fit the row of the node, and so on inside
  abbrev pub Fitted : Node → Bares → Type 0
  Fitted n xs = Fits (row_of e n) (map shape (args xs)) × AllInside n xs

  -- a slot of this kind takes the argument; if it is a node, its arguments fit, at every level
  abbrev pub IsSound : Takes → Bare → Type 0
  IsSound t (text b) = Unit {0}
  IsSound t (number b) = Unit {0}
  IsSound t (word b) = Unit {0}
  IsSound t (node k xs) = (m : Node) → entered t (keyword_of k) ≡ Some m → Fitted m xs

  pub record Fitting (t : Takes) (x : Bare) : Type 0 where
    pub taken : takes t (shape x) ≡ true
    pub sound : IsSound t x

  abbrev pub AllFitting : Takes → List Bare → Type 0
  AllFitting t [] = Unit {0}
  AllFitting t (x ∷ xs) = Fitting t x × AllFitting t xs

  -- The arguments can be cut, in order, into runs that meet the slots; and so on inside.
  abbrev pub Cuts : List Slot → List Bare → Type 0
  Cuts [] xs = xs ≡ []
  Cuts (s ∷ row) xs = (run : List Bare) × (rest : List Bare) × (xs ≡ run ++ rest) × AllFitting s.takes run × Times s.often (length run) × Cuts row rest
