-- The slot faults of a tree.
use Rattle.std.specs.Prelude.{◌≡◌, ℕ, suc, ◌<◌, Bool, List, [], ◌∷◌, ◌++◌, map, Option, Some, None, ◌⊎◌, if◌then◌else◌}
use Rattle.crs_number.specs.Count.{is_count}
use Rattle.wkt_tree.specs.declared.token.Delimiter.{Delimiter}
use Rattle.wkt_tree.specs.declared.token.TokenKind.{TokenKind}
use Rattle.wkt_tree.specs.declared.token.TokenKind.TheVariants.{Word, Quoted, Number, Comma, Open, Close}
use Rattle.wkt_tree.specs.Tree.{Piece, Tok, Item, Items, text, number, word, node, last, more, tokens}
use Rattle.wkt_grammar.specs.declared.table.Edition.{Edition}
use Rattle.wkt_grammar.specs.declared.table.Slot.{Slot}
use Rattle.wkt_grammar.specs.declared.table.SlotName.{SlotName}
use Rattle.wkt_grammar.specs.declared.table.Keyword.{Keyword}
use Rattle.wkt_grammar.specs.declared.table.Argument.{Argument}
use Rattle.wkt_grammar.specs.declared.table.Argument.TheVariants as arguments
use Rattle.wkt_grammar.specs.declared.table.Node.{Node}
use Rattle.wkt_grammar.specs.declared.table.Node.TheVariants as nodes
use Rattle.wkt_grammar.specs.Rows.{row_of, row_in, Admitted, Fits, FirstMissing}
use Rattle.wkt_grammar.specs.Words.{keyword_of, is_cs_kind, is_direction}
use Rattle.wkt_grammar.specs.declared.fault.SlotFault.{SlotFault}
use Rattle.wkt_grammar.specs.declared.fault.SlotFault.TheVariants.{NotHere, Missing, NotCount, WordUnknown}

-- ---- the kind of an argument

abbrev pub number_argument : List ℕ → Argument
number_argument bytes = if is_count bytes then arguments.Count else arguments.Number

abbrev pub word_argument : List ℕ → Argument
word_argument bytes = if is_cs_kind bytes then arguments.CsKind else (if is_direction bytes then arguments.Direction else arguments.OtherWord)

abbrev pub argument_by : Option Keyword → Argument
argument_by (Some k) = arguments.Node k
argument_by None = arguments.OtherNode

abbrev pub node_argument : List ℕ → Argument
node_argument bytes = argument_by (keyword_of bytes)

abbrev pub argument : Item → Argument
argument (text p) = arguments.Text
argument (number p) = number_argument p.bytes
argument (word p) = word_argument p.bytes
argument (node k d o items c) = node_argument k.bytes

-- the same, by the first token, and whether an opening delimiter follows it
abbrev pub argument_of : TokenKind → List ℕ → Bool → Argument
argument_of Quoted bytes opens = arguments.Text
argument_of Number bytes opens = number_argument bytes
argument_of Word bytes opens = if opens then node_argument bytes else word_argument bytes
argument_of Comma bytes opens = arguments.OtherNode
argument_of (Open d) bytes opens = arguments.OtherNode
argument_of (Close d) bytes opens = arguments.OtherNode

-- the first byte of an argument
abbrev pub begin : Item → ℕ
begin (text p) = p.place
begin (number p) = p.place
begin (word p) = p.place
begin (node k d o items c) = k.place

abbrev pub list : Items → List Item
list (last i) = i ∷ []
list (more i c rest) = i ∷ list rest

-- ---- the nodes that are reached

-- a node: its row, its arguments, and the place where they end, which is that of its closing delimiter
pub record Body : Type 0 where
  pub row : Node
  pub args : List Item
  pub closing : ℕ

abbrev pub body : Node → List Item → ℕ → Body
body n args c = record { row = n; args = args; closing = c }

-- The row of a node that is an argument of this row: the slot that takes its keyword decides.
abbrev pub IsRowOf : Edition → Node → Piece → Node → Type 0
IsRowOf e outer keyword n = (k : Keyword) × (keyword_of keyword.bytes ≡ Some k) × (row_in (row_of e outer) k ≡ Some n)

-- A node reaches itself, and all that an admitted argument that is a node reaches.
pub data Reaches (e : Edition) : Body → Body → Type 0 where
  itself : (b : Body) → Reaches e b b
  inside : (b m : Body) (before : List Item) (k : Piece) (d : Delimiter) (o : Piece) (items : Items) (c : Piece) (after : List Item) (n : Node)
      → b.args ≡ before ++ node k d o items c ∷ after
      → Admitted (row_of e b.row) (map argument before ++ argument (node k d o items c) ∷ [])
      → IsRowOf e b.row k n
      → Reaches e (body n (list items) c.place) m
      → Reaches e b m

-- ---- the faults

-- after these arguments a count is admitted, and nothing else; or a listed word is, and nothing else
abbrev pub OnlyCount : List Slot → List Argument → Type 0
OnlyCount row before = Admitted row (before ++ arguments.Count ∷ []) × ((a : Argument) → Admitted row (before ++ a ∷ []) → a ≡ arguments.Count)

abbrev pub OnlyWord : List Slot → List Argument → Type 0
OnlyWord row before =
    (Admitted row (before ++ arguments.CsKind ∷ []) ⊎ Admitted row (before ++ arguments.Direction ∷ []))
    × ((a : Argument) → Admitted row (before ++ a ∷ []) → (a ≡ arguments.CsKind) ⊎ (a ≡ arguments.Direction))

-- the fault of a refused argument, after the arguments before it
abbrev pub IsRefusal : List Slot → List Argument → Item → SlotFault → Type 0
IsRefusal row before (number p) f = ((f ≡ NotCount p.place) × OnlyCount row before) ⊎ ((f ≡ NotHere p.place) × (OnlyCount row before → ⊥))
IsRefusal row before (word p) f = ((f ≡ WordUnknown p.place) × OnlyWord row before) ⊎ ((f ≡ NotHere p.place) × (OnlyWord row before → ⊥))
IsRefusal row before (text p) f = f ≡ NotHere p.place
IsRefusal row before (node k d o items c) f = f ≡ NotHere k.place

-- the first argument with which the arguments so far are not admitted
pub record IsRefused (e : Edition) (b : Body) (f : SlotFault) : Type 0 where
  pub before : List Item
  pub item : Item
  pub after : List Item
  pub parts : b.args ≡ before ++ item ∷ after
  pub admitted : Admitted (row_of e b.row) (map argument before)
  pub refused : Admitted (row_of e b.row) (map argument before ++ argument item ∷ []) → ⊥
  pub fault : IsRefusal (row_of e b.row) (map argument before) item f

-- the arguments are admitted and do not fit: the first required slot that is empty, at the closing delimiter
pub record IsMissing (e : Edition) (b : Body) (f : SlotFault) : Type 0 where
  pub admitted : Admitted (row_of e b.row) (map argument b.args)
  pub unfit : Fits (row_of e b.row) (map argument b.args) → ⊥
  pub name : SlotName
  pub slot : FirstMissing (row_of e b.row) (map argument b.args) name
  pub fault : f ≡ Missing name b.closing

-- a fault of a node that is reached from this one
pub record HasFault (e : Edition) (b : Body) (f : SlotFault) : Type 0 where
  pub at : Body
  pub reached : Reaches e b at
  pub own : IsRefused e at f ⊎ IsMissing e at f

abbrev pub place : SlotFault → ℕ
place (NotHere at) = at
place (Missing slot at) = at
place (NotCount at) = at
place (WordUnknown at) = at

-- The root is the only argument of its own row, which ends after it.
abbrev pub whole : Item → ℕ → Body
whole tree end = body nodes.Root (tree ∷ []) end

-- a tree with these tokens has no slot fault
abbrev pub IsClean : Edition → List Tok → Type 0
IsClean e ts = (k : Piece) (d : Delimiter) (o : Piece) (items : Items) (c : Piece) → ts ≡ tokens (node k d o items c) → (f : SlotFault) → HasFault e (whole (node k d o items c) (suc c.place)) f → ⊥

-- a tree with these tokens has this slot fault, and each other one has a greater place
abbrev pub IsFirst : Edition → List Tok → SlotFault → Type 0
IsFirst e ts f = (k : Piece) (d : Delimiter) (o : Piece) (items : Items) (c : Piece) → ts ≡ tokens (node k d o items c)
    → HasFault e (whole (node k d o items c) (suc c.place)) f × ((g : SlotFault) → HasFault e (whole (node k d o items c) (suc c.place)) g → (g ≡ f) ⊎ (place f < place g))
