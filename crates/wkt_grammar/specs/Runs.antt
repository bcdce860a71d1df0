-- The values that the arguments of a node denote, slot by slot.
use Rattle.std.specs.Prelude.{◌≡◌, ℕ, List, [], ◌∷◌, ◌++◌, length, map, Option, Some, None}
use Rattle.std.specs.List.{AllPass}
use Rattle.crs_part.specs.declared.many.NonEmpty.{NonEmpty}
use Rattle.wkt_grammar.specs.declared.table.Edition.{Edition}
use Rattle.wkt_grammar.specs.declared.table.Edition.TheVariants as editions
use Rattle.wkt_grammar.specs.declared.table.Slot.{Slot}
use Rattle.wkt_grammar.specs.declared.table.Node.{Node}
use Rattle.wkt_grammar.specs.declared.table.Keyword.{Keyword}
use Rattle.wkt_grammar.specs.Rows.{takes, Times, row_of}
use Rattle.wkt_grammar.specs.Words.{keyword_of}
use Rattle.wkt_grammar.specs.Bare.{Bare, Bares, node, args, shape}

-- the meanings of the runs, in the order of the slots
infixr 5 ◌&◌
pub data Fields : Type 1 where
  nothing : Fields
  ◌&◌ : (List Bare → Type 0) → Fields → Fields

-- the slot takes these arguments, and this many
abbrev pub Meets : Slot → List Bare → Type 0
Meets s run = AllPass (takes s.takes) (map shape run) × Times s.often (length run)

-- the arguments can be split, in order, into runs that fill the slots and have these meanings
abbrev pub Runs : List Slot → Fields → List Bare → Type 0
Runs [] nothing xs = xs ≡ []
Runs [] (P & fields) xs = ⊥
Runs (s ∷ row) nothing xs = ⊥
Runs (s ∷ row) (P & fields) xs = (run : List Bare) × (rest : List Bare) × (xs ≡ run ++ rest) × Meets s run × P run × Runs row fields rest

-- a node whose keyword has this meaning, and whose arguments are a row of an edition with these fields
pub record IsNodeIn (edition : Edition) (means : Keyword) (row : Node) (fields : Fields) (x : Bare) : Type 0 where
  pub keyword : List ℕ
  pub items : Bares
  pub is : x ≡ node keyword items
  pub meaning : keyword_of keyword ≡ Some means
  pub runs : Runs (row_of edition row) fields (args items)

-- the same in the edition in which values are read and written
abbrev pub IsNode : Keyword → Node → Fields → Bare → Type 0
IsNode = IsNodeIn editions.Second

-- ---- a run is exactly one argument, at most one, any number, or at least one

abbrev pub One : {A : Type 0} → (Bare → A → Type 0) → A → List Bare → Type 0
One D v [] = ⊥
One D v (x ∷ []) = D x v
One D v (x ∷ y ∷ xs) = ⊥

abbrev pub Maybe : {A : Type 0} → (Bare → A → Type 0) → Option A → List Bare → Type 0
Maybe D None [] = Unit {0}
Maybe D None (x ∷ xs) = ⊥
Maybe D (Some v) xs = One D v xs

abbrev pub Each : {A : Type 0} → (Bare → A → Type 0) → List A → List Bare → Type 0
Each D [] [] = Unit {0}
Each D [] (x ∷ xs) = ⊥
Each D (v ∷ vs) [] = ⊥
Each D (v ∷ vs) (x ∷ xs) = D x v × Each D vs xs

abbrev pub listed : {A : Type 0} → NonEmpty A → List A
listed v = v.first ∷ v.others

abbrev pub AtLeastOne : {A : Type 0} → (Bare → A → Type 0) → NonEmpty A → List Bare → Type 0
AtLeastOne D v xs = Each D (listed v) xs
