-- The fault that the recursion finds is a fault of the tree, and all others have greater places.
use Rattle.std.proofs.Common.{◌≡◌, ℕ, suc, ◌≤◌, ◌<◌, Bool, true, false, cond, List, [], ◌∷◌, ◌++◌, Option, Some, None, refl, sym, ap, ◌∙◌, arith, inl, inr}
use Rattle.std.specs.Prelude.{◌⊎◌, ◌||◌, option_and_then}
use Rattle.std.specs.Option.{option_map, is_some}
use Rattle.wkt_tree.specs.declared.token.Delimiter.{Delimiter}
use Rattle.wkt_tree.specs.declared.token.TokenKind.TheVariants.{Comma, Open, Close}
use Rattle.wkt_tree.specs.Tree.{Piece, Tok, tok, Item, Items, text, number, word, node, last, more, tokens, all_tokens}
use Rattle.wkt_grammar.specs.declared.table.Edition.{Edition}
use Rattle.wkt_grammar.specs.declared.table.Slot.{Slot}
use Rattle.wkt_grammar.specs.declared.table.SlotName.{SlotName}
use Rattle.wkt_grammar.specs.declared.table.Node.{Node}
use Rattle.wkt_grammar.specs.declared.table.Argument.{Argument}
use Rattle.wkt_grammar.specs.declared.table.Argument.TheVariants as arguments
use Rattle.wkt_grammar.specs.Rows.{row_of}
use Rattle.wkt_grammar.specs.Words.{keyword_of}
use Rattle.wkt_grammar.specs.Walk.{next, missing}
use Rattle.wkt_grammar.specs.declared.fault.SlotFault.{SlotFault}
use Rattle.wkt_grammar.specs.declared.fault.SlotFault.TheVariants.{NotHere, Missing, NotCount, WordUnknown}
use Rattle.wkt_grammar.specs.Slots.{argument, begin, place}
use Rattle.wkt_grammar.specs.First.{refusal, missing_fault, first, taken, row_by, item_fault, items_fault}

-- ---- all faults, by recursion on the tree

abbrev pub InTaken : Type 0 → Type 0 → (List Slot → Type 0) → Option (List Slot) → Type 0
InTaken R I G None = R
InTaken R I G (Some l) = I ⊎ G l

abbrev pub InRow : (Node → Type 0) → Option Node → Type 0
InRow P None = ⊥
InRow P (Some m) = P m

abbrev mutual
  pub InItem : (ed : Edition) → Node → Item → SlotFault → Type 0
  InItem ed n (text p) g = ⊥
  InItem ed n (number p) g = ⊥
  InItem ed n (word p) g = ⊥
  InItem ed n (node k d o items c) g = InRow (λ m. InItems ed m (row_of ed m) false items c.place g) (row_by ed n (keyword_of k.bytes))

  pub InItems : (ed : Edition) → Node → List Slot → Bool → Items → ℕ → SlotFault → Type 0
  InItems ed n left filled (last i) end g = InTaken (refusal left filled (argument i) (begin i) ≡ g) (InItem ed n i g) (λ l. missing_fault l end ≡ Some g) (next left filled (argument i))
  InItems ed n left filled (more i c rest) end g = InTaken (refusal left filled (argument i) (begin i) ≡ g) (InItem ed n i g) (λ l. InItems ed n l true rest end g) (next left filled (argument i))

-- ---- the fault that is found is a fault of the tree

first_either : (a b : Option SlotFault) (f : SlotFault) → first a b ≡ Some f → (a ≡ Some f) ⊎ (b ≡ Some f)
first_either (Some g) b f e = inl e
first_either None b f e = inr e

taken_sound : (r f : SlotFault) (inner : Option SlotFault) (go : List Slot → Option SlotFault) (o : Option (List Slot)) (I : Type 0) (G : List Slot → Type 0) → (inner ≡ Some f → I) → ((l : List Slot) → go l ≡ Some f → G l) → taken r inner go o ≡ Some f → InTaken (r ≡ f) I G o
taken_sound r f inner go None I G i g e = cc
taken_sound r f inner go (Some l) I G i g e = elim (first_either inner (go l) f e) [ inl x ↦ inl (i x) | inr y ↦ inr (g l y) ]

mutual
  pub item_sound : (ed : Edition) (i : Item) (n : Node) (f : SlotFault) → item_fault ed n i ≡ Some f → InItem ed n i f
  item_sound ed (text p) n f e = absurd cc
  item_sound ed (number p) n f e = absurd cc
  item_sound ed (word p) n f e = absurd cc
  item_sound ed (node k d o items c) n f e =
      elim (row_by ed n (keyword_of k.bytes)) as (λ r. option_and_then (λ m. items_fault ed m (row_of ed m) false items c.place) r ≡ Some f → InRow (λ m. InItems ed m (row_of ed m) false items c.place f) r) [
        | None ↦ λ g. absurd cc
        | Some m ↦ λ g. items_sound ed items m (row_of ed m) false c.place f g
      ] e

  pub items_sound : (ed : Edition) (items : Items) (n : Node) (left : List Slot) (filled : Bool) (end : ℕ) (f : SlotFault) → items_fault ed n left filled items end ≡ Some f → InItems ed n left filled items end f
  items_sound ed (last i) n left filled end f e =
      taken_sound (refusal left filled (argument i) (begin i)) f (item_fault ed n i) (λ l. missing_fault l end) (next left filled (argument i)) (InItem ed n i f) (λ l. missing_fault l end ≡ Some f) (λ x. item_sound ed i n f x) (λ l y. y) e
  items_sound ed (more i c rest) n left filled end f e =
      taken_sound (refusal left filled (argument i) (begin i)) f (item_fault ed n i) (λ l. items_fault ed n l true rest end) (next left filled (argument i)) (InItem ed n i f) (λ l. InItems ed n l true rest end f) (λ x. item_sound ed i n f x)
      (λ l y. items_sound ed rest n l true end f y) e

-- ---- places

-- the places of the tokens strictly ascend; all are at least lo and below hi
abbrev pub Rising : ℕ → List Tok → ℕ → Type 0
Rising lo [] hi = lo ≤ hi
Rising lo (t ∷ ts) hi = (lo ≤ t.piece.place) × Rising (suc t.piece.place) ts hi

pub rising_le : (ts : List Tok) (lo hi : ℕ) → Rising lo ts hi → lo ≤ hi
rising_le [] lo hi r = r
rising_le (t ∷ ts) lo hi r = let a = r.0 in let b = rising_le ts (suc t.piece.place) hi r.1 in omega (arith, a, b)

pub rising_split : (a b : List Tok) (lo hi : ℕ) → Rising lo (a ++ b) hi → (m : ℕ) × Rising lo a m × Rising m b hi
rising_split [] b lo hi r = (lo, omega arith, r)
rising_split (t ∷ a) b lo hi r = let s = rising_split a b (suc t.piece.place) hi r.1 in (s.0, (r.0, s.1), s.2)

pub rising_more : (ts : List Tok) (lo hi top : ℕ) → Rising lo ts hi → hi ≤ top → Rising lo ts top
rising_more [] lo hi top r h = omega (arith, r, h)
rising_more (t ∷ ts) lo hi top r h = (r.0, rising_more ts (suc t.piece.place) hi top r.1 h)

abbrev pub Between : ℕ → ℕ → ℕ → Type 0
Between lo n hi = (lo ≤ n) × (n ≤ hi)

abbrev pub Inside : ℕ → ℕ → ℕ → Type 0
Inside lo n hi = (lo ≤ n) × (suc n ≤ hi)

begin_between : (i : Item) (lo hi : ℕ) → Rising lo (tokens i) hi → Inside lo (begin i) hi
begin_between (text p) lo hi r = r
begin_between (number p) lo hi r = r
begin_between (word p) lo hi r = r
begin_between (node k d o items c) lo hi r = (r.0, rising_le (tok (Open d) o ∷ (all_tokens items ++ tok (Close d) c ∷ [])) (suc k.place) hi r.1)

either_place : (b : Bool) (f g : SlotFault) (at : ℕ) → place f ≡ at → place g ≡ at → place (cond b f g) ≡ at
either_place true f g at x y = x
either_place false f g at x y = y

refusal_place : (left : List Slot) (filled : Bool) (a : Argument) (at : ℕ) → place (refusal left filled a at) ≡ at
refusal_place left filled arguments.Number at = either_place (is_some (next left filled arguments.Count)) (NotCount at) (NotHere at) at refl refl
refusal_place left filled arguments.Count at = either_place (is_some (next left filled arguments.Count)) (NotCount at) (NotHere at) at refl refl
refusal_place left filled arguments.CsKind at = either_place (is_some (next left filled arguments.CsKind) || is_some (next left filled arguments.Direction)) (WordUnknown at) (NotHere at) at refl refl
refusal_place left filled arguments.Direction at = either_place (is_some (next left filled arguments.CsKind) || is_some (next left filled arguments.Direction)) (WordUnknown at) (NotHere at) at refl refl
refusal_place left filled arguments.OtherWord at = either_place (is_some (next left filled arguments.CsKind) || is_some (next left filled arguments.Direction)) (WordUnknown at) (NotHere at) at refl refl
refusal_place left filled arguments.Text at = refl
refusal_place left filled (arguments.Node k) at = refl
refusal_place left filled arguments.OtherNode at = refl

missing_place : (o : Option SlotName) (end : ℕ) (f : SlotFault) → option_map (λ s. Missing s end) o ≡ Some f → place f ≡ end
missing_place None end f e = absurd cc
missing_place (Some s) end f e = let same : Missing s end ≡ f = cc in ap place (sym same)

at_place : (lo n hi : ℕ) (m : ℕ) → m ≡ n → Inside lo n hi → Inside lo m hi
at_place lo n hi m e b = (let x = b.0 in omega (arith, x, e), let y = b.1 in omega (arith, y, e))

-- the arguments of a node are between its opening and its closing delimiter
inner_rising : (k : Piece) (d : Delimiter) (o : Piece) (items : Items) (c : Piece) (lo hi : ℕ) → Rising lo (tokens (node k d o items c)) hi → Rising (suc o.place) (all_tokens items) c.place × (lo ≤ suc o.place) × (suc c.place ≤ hi)
inner_rising k d o items c lo hi r =
    let s = rising_split (all_tokens items) (tok (Close d) c ∷ []) (suc o.place) hi r.1.1 in
    let x = r.0 in let y = r.1.0 in
    (rising_more (all_tokens items) (suc o.place) s.0 c.place s.1 s.2.0, omega (arith, x, y), s.2.1)

mutual
  item_between : (ed : Edition) (i : Item) (n : Node) (lo hi : ℕ) (f : SlotFault) → Rising lo (tokens i) hi → InItem ed n i f → Inside lo (place f) hi
  item_between ed (text p) n lo hi f r x = absurd x
  item_between ed (number p) n lo hi f r x = absurd x
  item_between ed (word p) n lo hi f r x = absurd x
  item_between ed (node k d o items c) n lo hi f r x =
      let s = inner_rising k d o items c lo hi r in
      elim (row_by ed n (keyword_of k.bytes)) as (λ y. InRow (λ m. InItems ed m (row_of ed m) false items c.place f) y → Inside lo (place f) hi) [
        | None ↦ λ g. absurd g
        | Some m ↦ λ g. let b = items_between ed items m (row_of ed m) false (suc o.place) c.place f s.0 g in (let p = b.0 in let q = s.1 in omega (arith, p, q), let p = b.1 in let q = s.2 in omega (arith, p, q))
      ] x

  items_between : (ed : Edition) (items : Items) (n : Node) (left : List Slot) (filled : Bool) (lo end : ℕ) (f : SlotFault) → Rising lo (all_tokens items) end → InItems ed n left filled items end f → Between lo (place f) end
  items_between ed (last i) n left filled lo end f r x =
      elim (next left filled (argument i)) as (λ o. InTaken (refusal left filled (argument i) (begin i) ≡ f) (InItem ed n i f) (λ l. missing_fault l end ≡ Some f) o → Between lo (place f) end) [
        | None ↦ λ e. let b = at_place lo (begin i) end (place f) (ap place (sym e) ∙ refusal_place left filled (argument i) (begin i)) (begin_between i lo end r) in (b.0, let p = b.1 in omega (arith, p))
        | Some l ↦ λ e. elim e [
          | inl y ↦ let b = item_between ed i n lo end f r y in (b.0, let p = b.1 in omega (arith, p))
          | inr y ↦ let z = missing_place (missing l true) end f y in let w = rising_le (tokens i) lo end r in (omega (arith, z, w), omega (arith, z))
        ]
      ] x
  items_between ed (more i c rest) n left filled lo end f r x =
      let s = rising_split (tokens i) (tok Comma c ∷ all_tokens rest) lo end r in
      let u = rising_le (tokens i) lo s.0 s.1 in
      let v = s.2.0 in
      let w = rising_le (all_tokens rest) (suc c.place) end s.2.1 in
      elim (next left filled (argument i)) as (λ o. InTaken (refusal left filled (argument i) (begin i) ≡ f) (InItem ed n i f) (λ l. InItems ed n l true rest end f) o → Between lo (place f) end) [
        | None ↦ λ e. let b = at_place lo (begin i) s.0 (place f) (ap place (sym e) ∙ refusal_place left filled (argument i) (begin i)) (begin_between i lo s.0 s.1) in (b.0, let p = b.1 in omega (arith, p, v, w))
        | Some l ↦ λ e. elim e [
          | inl y ↦ let b = item_between ed i n lo s.0 f s.1 y in (b.0, let p = b.1 in omega (arith, p, v, w))
          | inr y ↦ let b = items_between ed rest n l true (suc c.place) end f s.2.1 y in (let p = b.0 in omega (arith, p, u, v), b.1)
        ]
      ] x

-- ---- each fault is the one that is found, or has a greater place

abbrev pub Found : Option SlotFault → SlotFault → Type 0
Found o g = (f : SlotFault) × (o ≡ Some f) × ((g ≡ f) ⊎ (place f < place g))

taken_found : (r g : SlotFault) (inner : Option SlotFault) (go : List Slot → Option SlotFault) (o : Option (List Slot)) (I : Type 0) (G : List Slot → Type 0) → (I → Found inner g) → ((l : List Slot) → G l → Found (go l) g)
    → ((f : SlotFault) → inner ≡ Some f → (l : List Slot) → G l → place f < place g) → InTaken (r ≡ g) I G o → Found (taken r inner go o) g
taken_found r g inner go None I G i h j e = (r, refl, inl (sym e))
taken_found r g inner go (Some l) I G i h j (inl x) = let y = i x in (y.0, ap (λ z. first z (go l)) y.1, y.2)
taken_found r g None go (Some l) I G i h j (inr x) = h l x
taken_found r g (Some f) go (Some l) I G i h j (inr x) = (f, refl, inr (j f refl l x))

mutual
  item_found : (ed : Edition) (i : Item) (n : Node) (lo hi : ℕ) (g : SlotFault) → Rising lo (tokens i) hi → InItem ed n i g → Found (item_fault ed n i) g
  item_found ed (text p) n lo hi g r x = absurd x
  item_found ed (number p) n lo hi g r x = absurd x
  item_found ed (word p) n lo hi g r x = absurd x
  item_found ed (node k d o items c) n lo hi g r x =
      let s = inner_rising k d o items c lo hi r in
      elim (row_by ed n (keyword_of k.bytes)) as (λ y. InRow (λ m. InItems ed m (row_of ed m) false items c.place g) y → Found (option_and_then (λ m. items_fault ed m (row_of ed m) false items c.place) y) g) [
        | None ↦ λ e. absurd e
        | Some m ↦ λ e. items_found ed items m (row_of ed m) false (suc o.place) c.place g s.0 e
      ] x

  pub items_found : (ed : Edition) (items : Items) (n : Node) (left : List Slot) (filled : Bool) (lo end : ℕ) (g : SlotFault) → Rising lo (all_tokens items) end → InItems ed n left filled items end g → Found (items_fault ed n left filled items end) g
  items_found ed (last i) n left filled lo end g r x =
      taken_found (refusal left filled (argument i) (begin i)) g (item_fault ed n i) (λ l. missing_fault l end) (next left filled (argument i)) (InItem ed n i g) (λ l. missing_fault l end ≡ Some g)
      (λ y. item_found ed i n lo end g r y)
      (λ l y. (g, y, inl refl))
      (λ f e l y. let z = missing_place (missing l true) end g y in let b = item_between ed i n lo end f r (item_sound ed i n f e) in let p = b.1 in omega (arith, p, z)) x
  items_found ed (more i c rest) n left filled lo end g r x =
      let s = rising_split (tokens i) (tok Comma c ∷ all_tokens rest) lo end r in
      let v = s.2.0 in
      taken_found (refusal left filled (argument i) (begin i)) g (item_fault ed n i) (λ l. items_fault ed n l true rest end) (next left filled (argument i)) (InItem ed n i g) (λ l. InItems ed n l true rest end g)
      (λ y. item_found ed i n lo s.0 g s.1 y)
      (λ l y. items_found ed rest n l true (suc c.place) end g s.2.1 y)
      (λ f e l y. let b = item_between ed i n lo s.0 f s.1 (item_sound ed i n f e) in let w = items_between ed rest n l true (suc c.place) end g s.2.1 y in let p = b.1 in let q = w.0 in omega (arith, p, q, v)) x
