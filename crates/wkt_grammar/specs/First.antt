-- The result of the walk, by recursion on the tree.
use Rattle.std.specs.Prelude.{◌≡◌, ℕ, Bool, true, false, ◌||◌, List, ◌∷◌, ◌++◌, drop, Option, Some, None, Result, Ok, Err, if◌then◌else◌, option_and_then}
use Rattle.std.specs.Option.{option_map, is_some}
use Rattle.wkt_tree.specs.declared.token.Delimiter.{Delimiter}
use Rattle.wkt_tree.specs.declared.token.TokenKind.TheVariants.{Close}
use Rattle.wkt_tree.specs.Tree.{Piece, Tok, tok, Item, Items, text, number, word, node, last, more, tokens, all_tokens}
use Rattle.wkt_grammar.specs.declared.table.Edition.{Edition}
use Rattle.wkt_grammar.specs.declared.table.Slot.{Slot}
use Rattle.wkt_grammar.specs.declared.table.Keyword.{Keyword}
use Rattle.wkt_grammar.specs.declared.table.Argument.{Argument}
use Rattle.wkt_grammar.specs.declared.table.Argument.TheVariants as arguments
use Rattle.wkt_grammar.specs.declared.table.Node.{Node}
use Rattle.wkt_grammar.specs.declared.walk.RowPosition.{RowPosition}
use Rattle.wkt_grammar.specs.Rows.{row_of, row_in}
use Rattle.wkt_grammar.specs.Words.{keyword_of}
use Rattle.wkt_grammar.specs.Walk.{next, missing}
use Rattle.wkt_grammar.specs.declared.fault.SlotFault.{SlotFault}
use Rattle.wkt_grammar.specs.declared.fault.SlotFault.TheVariants.{NotHere, Missing, NotCount, WordUnknown}
use Rattle.wkt_grammar.specs.Slots.{argument, begin}
use Rattle.wkt_grammar.specs.Next.{Follows}

abbrev pub number_refusal : List Slot → Bool → ℕ → SlotFault
number_refusal left filled at = if is_some (next left filled arguments.Count) then NotCount at else NotHere at

abbrev pub word_refusal : List Slot → Bool → ℕ → SlotFault
word_refusal left filled at = if is_some (next left filled arguments.CsKind) || is_some (next left filled arguments.Direction) then WordUnknown at else NotHere at

-- the fault of an argument that the rest of the row does not take
abbrev pub refusal : List Slot → Bool → Argument → ℕ → SlotFault
refusal left filled arguments.Number at = number_refusal left filled at
refusal left filled arguments.Count at = number_refusal left filled at
refusal left filled arguments.CsKind at = word_refusal left filled at
refusal left filled arguments.Direction at = word_refusal left filled at
refusal left filled arguments.OtherWord at = word_refusal left filled at
refusal left filled arguments.Text at = NotHere at
refusal left filled (arguments.Node k) at = NotHere at
refusal left filled arguments.OtherNode at = NotHere at

abbrev pub missing_fault : List Slot → ℕ → Option SlotFault
missing_fault left end = option_map (λ name. Missing name end) (missing left true)

-- the former, if there is one
abbrev pub first : Option SlotFault → Option SlotFault → Option SlotFault
first (Some f) o = Some f
first None o = o

-- an argument that is refused, or taken
abbrev pub taken : SlotFault → Option SlotFault → (List Slot → Option SlotFault) → Option (List Slot) → Option SlotFault
taken f inner go None = Some f
taken f inner go (Some left) = first inner (go left)

module _ (e : Edition) where
  -- the row of a node with this keyword, as an argument of the row of another
  abbrev pub row_by : Node → Option Keyword → Option Node
  row_by n k = option_and_then (row_in (row_of e n)) k

  abbrev mutual
    -- inside an argument
    pub item_fault : Node → Item → Option SlotFault
    item_fault n (text p) = None
    item_fault n (number p) = None
    item_fault n (word p) = None
    item_fault n (node k d o items c) = option_and_then (λ m. items_fault m (row_of e m) false items c.place) (row_by n (keyword_of k.bytes))

    -- in the remaining arguments, up to the closing delimiter
    pub items_fault : Node → List Slot → Bool → Items → ℕ → Option SlotFault
    items_fault n left filled (last i) end = taken (refusal left filled (argument i) (begin i)) (item_fault n i) (λ l. missing_fault l end) (next left filled (argument i))
    items_fault n left filled (more i c rest) end = taken (refusal left filled (argument i) (begin i)) (item_fault n i) (λ l. items_fault n l true rest end) (next left filled (argument i))

  -- in one argument
  abbrev pub argument_fault : Node → List Slot → Bool → Item → Option SlotFault
  argument_fault n left filled i = taken (refusal left filled (argument i) (begin i)) (item_fault n i) (λ l. None) (next left filled (argument i))

  -- the rest of the row at a position
  abbrev pub rest_at : Node → RowPosition → List Slot
  rest_at n p = drop p.slot (row_of e n)

  abbrev pub ItemAnswer : Node → RowPosition → Item → List Tok → List Tok → Result RowPosition SlotFault → Type 0
  ItemAnswer n at i new rest (Err f) = argument_fault n (rest_at n at) at.filled i ≡ Some f
  ItemAnswer n at i new rest (Ok p) = (new ≡ rest) × (next (rest_at n at) at.filled (argument i) ≡ Some (rest_at n p)) × (p.filled ≡ true) × (item_fault n i ≡ None)

  abbrev pub AnswersItem : Node → RowPosition → List Tok → List Tok → Result RowPosition SlotFault → Type 0
  AnswersItem n at old new r = (i : Item) (rest : List Tok) → old ≡ tokens i ++ rest → Follows rest → ItemAnswer n at i new rest r

  abbrev pub NodeAnswer : Node → Items → Piece → List Tok → List Tok → Result (Unit {0}) SlotFault → Type 0
  NodeAnswer n items c new rest (Err f) = items_fault n (row_of e n) false items c.place ≡ Some f
  NodeAnswer n items c new rest (Ok u) = (new ≡ rest) × (items_fault n (row_of e n) false items c.place ≡ None)

  abbrev pub AnswersNode : Node → List Tok → List Tok → Result (Unit {0}) SlotFault → Type 0
  AnswersNode n old new r = (items : Items) (d : Delimiter) (c : Piece) (rest : List Tok) → old ≡ all_tokens items ++ tok (Close d) c ∷ rest → NodeAnswer n items c new rest r
