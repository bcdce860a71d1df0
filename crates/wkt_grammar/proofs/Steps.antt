-- The walk over the tokens finds the fault that the recursion on the tree finds.
use Rattle.std.proofs.Common.{◌≡◌, ℕ, zero, suc, ◌≤◌, Bool, true, false, cond, List, [], ◌∷◌, ◌++◌, length, drop, Option, Some, None, refl, sym, ap, ◌∙◌, append_assoc, arith, inl, inr}
use Rattle.std.specs.Prelude.{◌⊎◌, Ok, Err, ◌&&◌, ◌||◌, not, slice_get, option_and_then}
use Rattle.std.specs.Option.{option_map, is_some}
use Rattle.std.proofs.lemmas.List.{length-drop}
use Rattle.wkt_tree.specs.declared.token.Delimiter.{Delimiter}
use Rattle.wkt_tree.specs.declared.token.TokenKind.TheVariants.{Word, Quoted, Number, Comma, Close}
use Rattle.wkt_tree.specs.declared.token.Token.{Token}
use Rattle.wkt_tree.specs.Faults.{view}
use Rattle.wkt_tree.specs.Tree.{Piece, Tok, tok, Item, Items, text, number, word, node, last, more, tokens, all_tokens}
use Rattle.wkt_grammar.specs.declared.table.Node.{Node}
use Rattle.wkt_grammar.specs.declared.table.Edition.{Edition}
use Rattle.wkt_grammar.specs.declared.table.Slot.{Slot}
use Rattle.wkt_grammar.specs.declared.table.Keyword.{Keyword}
use Rattle.wkt_grammar.specs.declared.table.Argument.{Argument}
use Rattle.wkt_grammar.specs.declared.table.Argument.TheVariants as arguments
use Rattle.wkt_grammar.specs.Words.{keyword_of, is_cs_kind, is_direction}
use Rattle.wkt_grammar.specs.declared.walk.RowPosition.{RowPosition}
use Rattle.wkt_grammar.specs.Rows.{row_of, row_in, enters, or_else, is_required}
use Rattle.wkt_grammar.specs.Walk.{next, is_many}
use Rattle.wkt_grammar.specs.declared.fault.SlotFault.{SlotFault}
use Rattle.wkt_grammar.specs.Slots.{argument, begin, argument_of, argument_by, number_argument, word_argument}
use Rattle.crs_number.specs.Count.{is_count}
use Rattle.wkt_grammar.specs.Next.{Follows, next_is, is_open, is_comma}
use Rattle.wkt_grammar.specs.First.{row_by, first, items_fault, item_fault, missing_fault, rest_at, refusal, taken, argument_fault, AnswersItem, AnswersNode}

-- after an argument, the node ends, or a comma and more arguments follow; the node has the fault of this rest
abbrev pub Behind : Edition → Node → Items → Delimiter → Piece → List Tok → List Tok → RowPosition → Type 0
Behind ed n items d c rest cur p =
    (p.filled ≡ true)
    × (((cur ≡ tok (Close d) c ∷ rest) × (items_fault ed n (row_of ed n) false items c.place ≡ missing_fault (rest_at ed n p) c.place))
    ⊎ ((k : Piece) × (left : Items) × (cur ≡ tok Comma k ∷ (all_tokens left ++ tok (Close d) c ∷ rest)) × (items_fault ed n (row_of ed n) false items c.place ≡ items_fault ed n (rest_at ed n p) true left c.place)))

abbrev pub GoesOn : Edition → Node → List Tok → List Tok → RowPosition → Type 0
GoesOn ed n old cur p = (items : Items) (d : Delimiter) (c : Piece) (rest : List Tok) → old ≡ all_tokens items ++ tok (Close d) c ∷ rest → Behind ed n items d c rest cur p

-- ---- the next token

-- the token that was peeked at is the first one
peeked_is : (old : List Tok) (t : Token) → option_map view (Some t) ≡ slice_get old 0 → (u : Tok) (rest : List Tok) → old ≡ u ∷ rest → view t ≡ u
peeked_is old t e u rest h = let g = e ∙ ap (λ (l : List Tok). slice_get l 0) h in cc

none_peeked : (old : List Tok) → option_map view None ≡ slice_get old 0 → (u : Tok) (rest : List Tok) → old ≡ u ∷ rest → ⊥
none_peeked old e u rest h = let g = e ∙ ap (λ (l : List Tok). slice_get l 0) h in cc

-- an argument has at least one token
pub some_token : (old : List Tok) → option_map view None ≡ slice_get old 0 → (i : Item) (rest : List Tok) → old ≡ tokens i ++ rest → ⊥
some_token old e (text p) rest h = none_peeked old e (tok Quoted p) rest h
some_token old e (number p) rest h = none_peeked old e (tok Number p) rest h
some_token old e (word p) rest h = none_peeked old e (tok Word p) rest h
some_token old e (node k d o items c) rest h = none_peeked old e (tok Word k) _ h

abbrev pub seen : Token → Bool → Argument
seen t opens = argument_of t.kind t.bytes.now opens

-- the first token of an argument, and whether a delimiter opens after it, determine its kind and its place
pub head_is : (old : List Tok) (t : Token) → option_map view (Some t) ≡ slice_get old 0 → (i : Item) (rest : List Tok) → old ≡ tokens i ++ rest → Follows rest → (seen t (next_is is_open (drop 1 old)) ≡ argument i) × (t.place ≡ begin i)
head_is old t e (text p) rest h f = let v = peeked_is old t e (tok Quoted p) rest h in (ap (λ (u : Tok). argument_of u.kind u.piece.bytes (next_is is_open (drop 1 old))) v, ap (λ (u : Tok). u.piece.place) v)
head_is old t e (number p) rest h f = let v = peeked_is old t e (tok Number p) rest h in (ap (λ (u : Tok). argument_of u.kind u.piece.bytes (next_is is_open (drop 1 old))) v, ap (λ (u : Tok). u.piece.place) v)
head_is old t e (word p) rest h f =
    let v = peeked_is old t e (tok Word p) rest h in
    let b : next_is is_open (drop 1 old) ≡ false = ap (λ (l : List Tok). next_is is_open (drop 1 l)) h ∙ f in
    (ap (λ (u : Tok). argument_of u.kind u.piece.bytes (next_is is_open (drop 1 old))) v ∙ ap (argument_of Word p.bytes) b, ap (λ (u : Tok). u.piece.place) v)
head_is old t e (node k d o items c) rest h f =
    let v = peeked_is old t e (tok Word k) _ h in
    let b : next_is is_open (drop 1 old) ≡ true = ap (λ (l : List Tok). next_is is_open (drop 1 l)) h in
    (ap (λ (u : Tok). argument_of u.kind u.piece.bytes (next_is is_open (drop 1 old))) v ∙ ap (argument_of Word k.bytes) b, ap (λ (u : Tok). u.piece.place) v)

-- ---- an argument that is refused

pub refused_item : (ed : Edition) (n : Node) (left : List Slot) (filled : Bool) (i : Item) (a : Argument) (at : ℕ) → a ≡ argument i → at ≡ begin i → next left filled a ≡ None → argument_fault ed n left filled i ≡ Some (refusal left filled a at)
refused_item ed n left filled i a at e p x =
    ap (λ o. taken (refusal left filled (argument i) (begin i)) (item_fault ed n i) (λ l. None) o) (ap (next left filled) (sym e) ∙ x)
    ∙ (ap (λ y. Some (refusal left filled y (begin i))) (sym e) ∙ ap (λ y. Some (refusal left filled a y)) (sym p))

-- ---- an argument that is taken

no_other : (left : List Slot) (filled : Bool) → next left filled arguments.OtherNode ≡ None
no_other [] filled = refl
no_other (s ∷ left) filled =
    elim (is_required s.often && not filled) as (λ b. cond b None (next left false arguments.OtherNode) ≡ None) [
      | true ↦ refl
      | false ↦ no_other left false
    ]

abbrev pub NoNode : Argument → Type 0
NoNode a = (k : Keyword) → a ≡ arguments.Node k → ⊥

number_plain : (bytes : List ℕ) → NoNode (number_argument bytes)
number_plain bytes = elim (is_count bytes) as (λ b. NoNode (cond b arguments.Count arguments.Number)) [ true ↦ λ k e. absurd cc | false ↦ λ k e. absurd cc ]

word_plain : (bytes : List ℕ) → NoNode (word_argument bytes)
word_plain bytes =
    elim (is_cs_kind bytes) as (λ b. NoNode (cond b arguments.CsKind (cond (is_direction bytes) arguments.Direction arguments.OtherWord))) [
      | true ↦ λ k e. absurd cc
      | false ↦ elim (is_direction bytes) as (λ b. NoNode (cond b arguments.Direction arguments.OtherWord)) [ true ↦ λ k e. absurd cc | false ↦ λ k e. absurd cc ]
    ]

-- an argument that is a node with a known keyword has this keyword
known : (o : Option Keyword) (k : Keyword) → argument_by o ≡ arguments.Node k → o ≡ Some k
known None k e = absurd cc
known (Some j) k e = let same : j ≡ k = cc in ap Some same

unknown : (o : Option Keyword) → NoNode (argument_by o) → argument_by o ≡ arguments.OtherNode
unknown None h = refl
unknown (Some j) h = absurd (h j refl)

-- an argument that the row takes, and that is not a known node, is one token, without a fault inside it
pub plain_item : (ed : Edition) (n : Node) (left l : List Slot) (filled : Bool) (i : Item) (rest old : List Tok) → NoNode (argument i) → next left filled (argument i) ≡ Some l → old ≡ tokens i ++ rest → (drop 1 old ≡ rest) × (item_fault ed n i ≡ None)
plain_item ed n left l filled (text p) rest old h x e = (ap (drop 1) e, refl)
plain_item ed n left l filled (number p) rest old h x e = (ap (drop 1) e, refl)
plain_item ed n left l filled (word p) rest old h x e = (ap (drop 1) e, refl)
plain_item ed n left l filled (node k d o items c) rest old h x e =
    let g = sym (ap (next left filled) (unknown (keyword_of k.bytes) h)) ∙ x in let z = no_other left filled in absurd cc

row_in_drop : (row : List Slot) (s : ℕ) (k : Keyword) → row_in row k ≡ None → row_in (drop s row) k ≡ None
row_in_drop row zero k e = e
row_in_drop [] (suc s) k e = refl
row_in_drop (x ∷ row) (suc s) k e =
    row_in_drop row s k (elim (enters x.takes k) as (λ o. or_else o (row_in row k) ≡ None → row_in row k ≡ None) [ None ↦ λ g. g | Some m ↦ λ g. absurd cc ] e)

not_taken : (left : List Slot) (filled : Bool) (k : Keyword) → row_in left k ≡ None → next left filled (arguments.Node k) ≡ None
not_taken [] filled k e = refl
not_taken (s ∷ left) filled k e =
    elim (enters s.takes k) as (λ o. or_else o (row_in left k) ≡ None → cond (is_some o && (not filled || is_many s.often)) (Some (s ∷ left)) (cond (is_required s.often && not filled) None (next left false (arguments.Node k))) ≡ None) [
      | Some m ↦ λ g. absurd cc
      | None ↦ λ g. elim (is_required s.often && not filled) as (λ b. cond b None (next left false (arguments.Node k)) ≡ None) [ true ↦ refl | false ↦ not_taken left false k g ]
    ] e

-- a keyword that the row takes has a row of its own
pub has_row : (row : List Slot) (s : ℕ) (filled : Bool) (k : Keyword) (l : List Slot) → next (drop s row) filled (arguments.Node k) ≡ Some l → row_in row k ≡ None → ⊥
has_row row s filled k l e x = let g = not_taken (drop s row) filled k (row_in_drop row s k x) in cc

-- the tokens are the arguments of a node, its closing delimiter, and the rest
abbrev pub Goes : Node → Items → Piece → Delimiter → List Tok → List Tok → Type 0
Goes m items c d rest two = two ≡ all_tokens items ++ tok (Close d) c ∷ rest

pub node_item : (ed : Edition) (n m : Node) (k : Keyword) (i : Item) (rest old : List Tok) → argument i ≡ arguments.Node k → row_in (row_of ed n) k ≡ Some m → old ≡ tokens i ++ rest
    → (items : Items) × (d : Delimiter) × (c : Piece) × (drop 1 (drop 1 old) ≡ all_tokens items ++ tok (Close d) c ∷ rest) × (item_fault ed n i ≡ items_fault ed m (row_of ed m) false items c.place)
node_item ed n m k (text p) rest old a x e = absurd cc
node_item ed n m k (number p) rest old a x e = absurd (number_plain p.bytes k a)
node_item ed n m k (word p) rest old a x e = absurd (word_plain p.bytes k a)
node_item ed n m k (node w d o items c) rest old a x e = (
  items,
  d,
  c,
  ap (λ (l : List Tok). drop 1 (drop 1 l)) e ∙ append_assoc (all_tokens items) (tok (Close d) c ∷ []) rest,
  ap (option_and_then (λ y. items_fault ed y (row_of ed y) false items c.place)) (ap (row_by ed n) (known (keyword_of w.bytes) k a) ∙ x),
)

-- ---- the arguments of a node

pub taken_ok : (r : SlotFault) (inner : Option SlotFault) (go : List Slot → Option SlotFault) (o : Option (List Slot)) (l : List Slot) → o ≡ Some l → inner ≡ None → taken r inner go o ≡ go l
taken_ok r inner go o l e z = ap (taken r inner go) e ∙ ap (λ x. first x (go l)) z

pub taken_err : (r f : SlotFault) (inner : Option SlotFault) (go : List Slot → Option SlotFault) (o : Option (List Slot)) → taken r inner (λ l. None) o ≡ Some f → taken r inner go o ≡ Some f
taken_err r f inner go None e = e
taken_err r f None go (Some l) e = absurd cc
taken_err r f (Some g) go (Some l) e = e

pub behind_item : (ed : Edition) (n : Node) (at p : RowPosition) (left items : Items) (cur cur' : List Tok) (d : Delimiter) (c : Piece) (rest : List Tok) → AnswersItem ed n at cur cur' (Ok p) → cur ≡ all_tokens left ++ tok (Close d) c ∷ rest
    → items_fault ed n (row_of ed n) false items c.place ≡ items_fault ed n (rest_at ed n at) at.filled left c.place → Behind ed n items d c rest cur' p
behind_item ed n at p (last i) items cur cur' d c rest a e t =
    let x = a i (tok (Close d) c ∷ rest) e refl in
    (x.2, inl (x.0, t ∙ taken_ok _ (item_fault ed n i) (λ l. missing_fault l c.place) _ _ x.1 x.3))
behind_item ed n at p (more i k left) items cur cur' d c rest a e t =
    let x = a i (tok Comma k ∷ (all_tokens left ++ tok (Close d) c ∷ rest)) (e ∙ append_assoc (tokens i) (tok Comma k ∷ all_tokens left) (tok (Close d) c ∷ rest)) refl in
    (x.2, inr (k, left, x.0, t ∙ taken_ok _ (item_fault ed n i) (λ l. items_fault ed n l true left c.place) _ _ x.1 x.3))

item_err : (ed : Edition) (n : Node) (at : RowPosition) (left : Items) (cur cur' : List Tok) (f : SlotFault) (d : Delimiter) (c : Piece) (rest : List Tok) → AnswersItem ed n at cur cur' (Err f) → cur ≡ all_tokens left ++ tok (Close d) c ∷ rest
    → items_fault ed n (rest_at ed n at) at.filled left c.place ≡ Some f
item_err ed n at (last i) cur cur' f d c rest a e = taken_err _ f (item_fault ed n i) (λ l. missing_fault l c.place) _ (a i (tok (Close d) c ∷ rest) e refl)
item_err ed n at (more i k left) cur cur' f d c rest a e =
    taken_err _ f (item_fault ed n i) (λ l. items_fault ed n l true left c.place) _ (a i (tok Comma k ∷ (all_tokens left ++ tok (Close d) c ∷ rest)) (e ∙ append_assoc (tokens i) (tok Comma k ∷ all_tokens left) (tok (Close d) c ∷ rest)) refl)

abbrev pub start : RowPosition
start = record { slot = 0; filled = false }

pub goes_first : (ed : Edition) (n : Node) (p : RowPosition) (old cur : List Tok) → AnswersItem ed n start old cur (Ok p) → GoesOn ed n old cur p
goes_first ed n p old cur a items d c rest e = behind_item ed n start p items items old cur d c rest a e refl

pub err_first : (ed : Edition) (n : Node) (f : SlotFault) (old cur new : List Tok) → AnswersItem ed n start old cur (Err f) → AnswersNode ed n old new (Err f)
err_first ed n f old cur new a items d c rest e = item_err ed n start items old cur f d c rest a e

-- after a comma, more arguments follow, and the fault of the node is theirs
on_comma : (ed : Edition) (n : Node) (p : RowPosition) (old cur : List Tok) (items : Items) (d : Delimiter) (c : Piece) (rest : List Tok) → GoesOn ed n old cur p → next_is is_comma cur ≡ true → old ≡ all_tokens items ++ tok (Close d) c ∷ rest
    → (left : Items) × (drop 1 cur ≡ all_tokens left ++ tok (Close d) c ∷ rest) × (items_fault ed n (row_of ed n) false items c.place ≡ items_fault ed n (rest_at ed n p) p.filled left c.place)
on_comma ed n p old cur items d c rest g m e =
    elim (g items d c rest e).1 [
      | inl end ↦ let w = sym (ap (next_is is_comma) end.0) ∙ m in absurd cc
      | inr on ↦ (on.1, ap (drop 1) on.2, on.3 ∙ ap (λ b. items_fault ed n (rest_at ed n p) b on.1 c.place) (sym (g items d c rest e).0))
    ]

pub goes_more : (ed : Edition) (n : Node) (p q : RowPosition) (old cur one cur' : List Tok) → GoesOn ed n old cur p → next_is is_comma cur ≡ true → one ≡ drop 1 cur → AnswersItem ed n p one cur' (Ok q) → GoesOn ed n old cur' q
goes_more ed n p q old cur one cur' g m s a items d c rest e =
    let x = on_comma ed n p old cur items d c rest g m e in behind_item ed n p q x.0 items one cur' d c rest a (s ∙ x.1) x.2

pub err_more : (ed : Edition) (n : Node) (p : RowPosition) (f : SlotFault) (old cur one cur' new : List Tok) → GoesOn ed n old cur p → next_is is_comma cur ≡ true → one ≡ drop 1 cur → AnswersItem ed n p one cur' (Err f) → AnswersNode ed n old new (Err f)
err_more ed n p f old cur one cur' new g m s a items d c rest e =
    let x = on_comma ed n p old cur items d c rest g m e in x.2 ∙ item_err ed n p x.0 one cur' f d c rest a (s ∙ x.1)

-- ---- the same statements, for the lists of tokens that the code has

module _ (ed : Edition) (n : Node) (at : RowPosition) (old one : List Tok) (t : Token) (a : Argument) (opens : Bool) where
  abbrev pub Seen : Type 0
  Seen = (option_map view (Some t) ≡ slice_get old 0) × (one ≡ drop 1 old) × (opens ≡ next_is is_open one) × (a ≡ argument_of t.kind t.bytes.now opens)

  item_is : Seen → (i : Item) (rest : List Tok) → old ≡ tokens i ++ rest → Follows rest → (a ≡ argument i) × (t.place ≡ begin i)
  item_is s i rest e f =
      let h = head_is old t s.0 i rest e f in
      (s.3 ∙ (ap (seen t) (s.2 ∙ ap (next_is is_open) s.1) ∙ h.0), h.1)

  pub refused_at : Seen → next (rest_at ed n at) at.filled a ≡ None → (new : List Tok) → AnswersItem ed n at old new (Err (refusal (rest_at ed n at) at.filled a t.place))
  refused_at s x new i rest e f = let h = item_is s i rest e f in refused_item ed n (rest_at ed n at) at.filled i a t.place h.0 h.1 x

  pub plain_at : Seen → (p : RowPosition) → next (rest_at ed n at) at.filled a ≡ Some (rest_at ed n p) → p.filled ≡ true → NoNode a → AnswersItem ed n at old one (Ok p)
  plain_at s p x z plain i rest e f =
      let h = item_is s i rest e f in
      let x' : next (rest_at ed n at) at.filled (argument i) ≡ Some (rest_at ed n p) = ap (next (rest_at ed n at) at.filled) (sym h.0) ∙ x in
      let y = plain_item ed n (rest_at ed n at) (rest_at ed n p) at.filled i rest old (λ k g. plain k (h.0 ∙ g)) x' e in
      (s.1 ∙ y.0, x', z, y.1)

  pub rowless_at : (k : Keyword) → a ≡ arguments.Node k → (p : RowPosition) → next (rest_at ed n at) at.filled a ≡ Some (rest_at ed n p) → row_in (row_of ed n) k ≡ None → ⊥
  rowless_at k g p x r = has_row (row_of ed n) at.slot at.filled k (rest_at ed n p) (ap (next (rest_at ed n at) at.filled) (sym g) ∙ x) r

  pub node_at : Seen → (k : Keyword) → a ≡ arguments.Node k → (m : Node) → row_in (row_of ed n) k ≡ Some m → (two new : List Tok) → two ≡ drop 1 one → (u : Unit {0}) → AnswersNode ed m two new (Ok u)
      → (p : RowPosition) → next (rest_at ed n at) at.filled a ≡ Some (rest_at ed n p) → p.filled ≡ true → AnswersItem ed n at old new (Ok p)
  node_at s k g m r two new w u ans p x z i rest e f =
      let h = item_is s i rest e f in
      let x' : next (rest_at ed n at) at.filled (argument i) ≡ Some (rest_at ed n p) = ap (next (rest_at ed n at) at.filled) (sym h.0) ∙ x in
      let y = node_item ed n m k i rest old (sym h.0 ∙ g) r e in
      let b = ans y.0 y.1 y.2 rest (w ∙ (ap (drop 1) s.1 ∙ y.3)) in
      (b.0, x', z, y.4 ∙ b.1)

pub shorter_one : (old one : List Tok) → one ≡ drop 1 old → length one ≤ length old
shorter_one old one e = let k = ap length e ∙ length-drop 1 old in omega (arith, k)

pub shorter_more : (a b m : List Tok) (n : ℕ) → length a ≤ length b → b ≡ drop 1 m → length m ≤ n → length a ≤ n
shorter_more a b m n h e g = let k = ap length e ∙ length-drop 1 m in omega (arith, k)
