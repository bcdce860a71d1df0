-- A tree without a slot fault has arguments that fit their rows, everywhere.
use Rattle.std.proofs.Common.{◌≡◌, ℕ, suc, ◌<◌, Bool, true, false, List, [], ◌∷◌, ◌++◌, length, map, get_or, Option, Some, None, refl, sym, ap, ◌∙◌, subst, arith}
use Rattle.std.specs.Prelude.{option_and_then}
use Rattle.std.specs.Option.{option_map, is_some}
use Rattle.std.specs.List.{AllPass}
use Rattle.std.proofs.lemmas.List.{length-map, map-append}
use Rattle.std.proofs.lemmas.List.Elements.{All-nil, All-cons, All-head, All-tail}
use Rattle.wkt_tree.specs.declared.token.Delimiter.{Delimiter}
use Rattle.wkt_tree.specs.Tree.{Piece, Tok, Item, Items, last, more, tokens}
use Rattle.wkt_tree.specs.Tree as tree
use Rattle.wkt_grammar.specs.declared.table.Edition.{Edition}
use Rattle.wkt_grammar.specs.declared.table.Slot.{Slot}
use Rattle.wkt_grammar.specs.declared.table.SlotName.{SlotName}
use Rattle.wkt_grammar.specs.declared.table.Node.{Node}
use Rattle.wkt_grammar.specs.declared.table.Node.TheVariants as nodes
use Rattle.wkt_grammar.specs.declared.table.Keyword.{Keyword}
use Rattle.wkt_grammar.specs.declared.table.Takes.{Takes}
use Rattle.wkt_grammar.specs.declared.table.Argument.{Argument}
use Rattle.wkt_grammar.specs.Rows.{row_of, row_in, enters, takes, Fits, Times}
use Rattle.wkt_grammar.specs.Words.{keyword_of}
use Rattle.wkt_grammar.specs.Walk.{next, missing, walk}
use Rattle.wkt_grammar.proofs.Walks.{end_fits, Passes, Stands}
use Rattle.wkt_grammar.proofs.Tables.{decides}
use Rattle.wkt_grammar.specs.declared.fault.SlotFault.{SlotFault}
use Rattle.wkt_grammar.specs.declared.fault.SlotFault.TheVariants.{Missing}
use Rattle.wkt_grammar.specs.Slots.{argument, begin, IsClean, argument_by}
use Rattle.wkt_grammar.specs.First.{refusal, missing_fault, taken, row_by, item_fault, items_fault}
use Rattle.wkt_grammar.specs.Bare.{Bare, Bares, text, number, word, node, none, and, args, bare, all_bare, shape}
use Rattle.wkt_grammar.specs.Fitted.{Inside, AllInside, Fitted, entered, IsSound, Fitting, AllFitting, Cuts}
use Rattle.wkt_grammar.proofs.Found.{items_sound}
use Rattle.wkt_grammar.proofs.Reach.{items_has}

-- an item is the same kind of argument with its places and without them
pub shape-bare : (i : Item) → shape (bare i) ≡ argument i
shape-bare (tree.text p) = refl
shape-bare (tree.number p) = refl
shape-bare (tree.word p) = refl
shape-bare (tree.node k d o items c) = refl

-- ---- trees without a fault, by recursion

none_taken : (r : SlotFault) (inner : Option SlotFault) (go : List Slot → Option SlotFault) (o : Option (List Slot)) → taken r inner go o ≡ None → (l : List Slot) × (o ≡ Some l) × (inner ≡ None) × (go l ≡ None)
none_taken r inner go None e = absurd cc
none_taken r (Some f) go (Some l) e = absurd cc
none_taken r None go (Some l) e = (l, refl, refl, e)

none_missing : (o : Option SlotName) (end : ℕ) → option_map (λ s. Missing s end) o ≡ None → o ≡ None
none_missing None end e = refl
none_missing (Some s) end e = absurd cc

abbrev WalksWell : List Slot → Bool → Bares → Type 0
WalksWell left filled xs = (at : Stands) × (walk left filled (map shape (args xs)) ≡ Some at) × (missing at.0 at.1 ≡ None)

walk_step : (left l : List Slot) (filled : Bool) (x : Bare) (xs : Bares) → next left filled (shape x) ≡ Some l → WalksWell l true xs → WalksWell left filled (and x xs)
walk_step left l filled x xs e w = (w.0, ap (option_and_then (λ k. walk k true (map shape (args xs)))) e ∙ w.1, w.2)

fitted_by : (ed : Edition) (n : Node) (xs : Bares) → WalksWell (row_of ed n) false xs → AllInside ed n xs → Fitted ed n xs
fitted_by ed n xs w a = (end_fits (row_of ed n) (map shape (args xs)) w.0 w.1 w.2, a)

mutual
  item_none : (ed : Edition) (i : Item) (n : Node) → item_fault ed n i ≡ None → Inside ed n (bare i)
  item_none ed (tree.text p) n e = tt
  item_none ed (tree.number p) n e = tt
  item_none ed (tree.word p) n e = tt
  item_none ed (tree.node k d o items c) n e = λ m h.
      let f : items_fault ed m (row_of ed m) false items c.place ≡ None = sym (ap (option_and_then (λ q. items_fault ed q (row_of ed q) false items c.place)) h) ∙ e in
      let g = items_none ed items m (row_of ed m) false c.place f in
      fitted_by ed m (all_bare items) g.0 g.1

  items_none : (ed : Edition) (items : Items) (n : Node) (left : List Slot) (filled : Bool) (end : ℕ) → items_fault ed n left filled items end ≡ None → WalksWell left filled (all_bare items) × AllInside ed n (all_bare items)
  items_none ed (last i) n left filled end e =
      let t = none_taken (refusal left filled (argument i) (begin i)) (item_fault ed n i) (λ l. missing_fault l end) (next left filled (argument i)) e in (
        walk_step left t.0 filled (bare i) none (ap (next left filled) (shape-bare i) ∙ t.1) ((t.0, true), refl, none_missing (missing t.0 true) end t.3),
        (item_none ed i n t.2, tt),
      )
  items_none ed (more i c rest) n left filled end e =
      let t = none_taken (refusal left filled (argument i) (begin i)) (item_fault ed n i) (λ l. items_fault ed n l true rest end) (next left filled (argument i)) e in
      let r = items_none ed rest n t.0 true end t.3 in (
        walk_step left t.0 filled (bare i) (all_bare rest) (ap (next left filled) (shape-bare i) ∙ t.1) r.0,
        (item_none ed i n t.2, r.1),
      )

-- a tree without a slot fault fits its rows, from the row of the root on
pub clean_fitted : (ed : Edition) (ts : List Tok) → IsClean ed ts → (k : Piece) (d : Delimiter) (o : Piece) (items : Items) (c : Piece) → ts ≡ tokens (tree.node k d o items c) → Fitted ed nodes.Root (and (bare (tree.node k d o items c)) none)
clean_fitted ed ts clean k d o items c e =
    let t = tree.node k d o items c in
    elim (items_fault ed nodes.Root (row_of ed nodes.Root) false (last t) (suc c.place)) as (λ f. items_fault ed nodes.Root (row_of ed nodes.Root) false (last t) (suc c.place) ≡ f → Fitted ed nodes.Root (and (bare t) none)) [
      | None ↦ λ h. let g = items_none ed (last t) nodes.Root (row_of ed nodes.Root) false (suc c.place) h in fitted_by ed nodes.Root (and (bare t) none) g.0 g.1
      | Some f ↦ λ h. absurd (clean k d o items c e f (items_has ed (last t) nodes.Root (row_of ed nodes.Root) false (suc c.place) f [] refl (items_sound ed (last t) nodes.Root (row_of ed nodes.Root) false (suc c.place) f h)))
    ] refl

-- ---- slot by slot

abbrev EachInside : Edition → Node → List Bare → Type 0
EachInside ed n [] = Unit {0}
EachInside ed n (x ∷ xs) = Inside ed n x × EachInside ed n xs

each_inside : (ed : Edition) (n : Node) (xs : Bares) → AllInside ed n xs → EachInside ed n (args xs)
each_inside ed n none a = tt
each_inside ed n (and x xs) a = (a.0, each_inside ed n xs a.1)

all_inside : (ed : Edition) (n : Node) (xs : Bares) → EachInside ed n (args xs) → AllInside ed n xs
all_inside ed n none a = tt
all_inside ed n (and x xs) a = (a.0, all_inside ed n xs a.1)

front_inside : (ed : Edition) (n : Node) (a b : List Bare) → EachInside ed n (a ++ b) → EachInside ed n a × EachInside ed n b
front_inside ed n [] b h = (tt, h)
front_inside ed n (x ∷ a) b h = let r = front_inside ed n a b h.1 in ((h.0, r.0), r.1)

back_inside : (ed : Edition) (n : Node) (a b : List Bare) → EachInside ed n a → EachInside ed n b → EachInside ed n (a ++ b)
back_inside ed n [] b h g = g
back_inside ed n (x ∷ a) b h g = (h.0, back_inside ed n a b h.1 g)

record Split (xs : List Bare) (run rest : List Argument) : Type 0 where
  front : List Bare
  back : List Bare
  parts : xs ≡ front ++ back
  front_is : map shape front ≡ run
  back_is : map shape back ≡ rest

split_of : (run : List Argument) (rest : List Argument) (xs : List Bare) → map shape xs ≡ run ++ rest → Split xs run rest
split_of [] rest xs e = record { front = []; back = xs; parts = refl; front_is = refl; back_is = e }
split_of (a ∷ run) rest [] e = absurd cc
split_of (a ∷ run) rest (x ∷ xs) e =
    let same : shape x ≡ a = cc in
    let others : map shape xs ≡ run ++ rest = cc in
    let s = split_of run rest xs others in
    record { front = x ∷ s.front; back = s.back; parts = ap (λ (l : List Bare). x ∷ l) s.parts; front_is = let f = s.front_is in cc; back_is = s.back_is }

-- each slot of the rest of the row assigns a keyword the row that the whole row assigns to it
abbrev Decides : Edition → Node → List Slot → Type 0
Decides ed n row = (i : ℕ) (d : Slot) (k : Keyword) (m : Node) → i < length row → enters (get_or row i d).takes k ≡ Some m → row_in (row_of ed n) k ≡ Some m

decides_rest : (ed : Edition) (n : Node) (s : Slot) (row : List Slot) → Decides ed n (s ∷ row) → Decides ed n row
decides_rest ed n s row h i d k m below e = h (suc i) d k m (omega (arith, below)) e

decides_head : (ed : Edition) (n : Node) (s : Slot) (row : List Slot) → Decides ed n (s ∷ row) → (k : Keyword) (m : Node) → enters s.takes k ≡ Some m → row_in (row_of ed n) k ≡ Some m
decides_head ed n s row h k m e = h 0 s k m (omega arith) e

entered_by : (ed : Edition) (n : Node) (t : Takes) (o : Option Keyword) (m : Node) → ((k : Keyword) (q : Node) → enters t k ≡ Some q → row_in (row_of ed n) k ≡ Some q) → entered t o ≡ Some m → row_by ed n o ≡ Some m
entered_by ed n t None m h e = absurd cc
entered_by ed n t (Some k) m h e = h k m e

sound_of : (ed : Edition) (n : Node) (t : Takes) (x : Bare) → ((k : Keyword) (q : Node) → enters t k ≡ Some q → row_in (row_of ed n) k ≡ Some q) → Inside ed n x → IsSound ed t x
sound_of ed n t (text b) h i = tt
sound_of ed n t (number b) h i = tt
sound_of ed n t (word b) h i = tt
sound_of ed n t (node k xs) h i = λ m e. i m (entered_by ed n t (keyword_of k) m h e)

all_fitting : (ed : Edition) (n : Node) (t : Takes) (xs : List Bare) → ((k : Keyword) (q : Node) → enters t k ≡ Some q → row_in (row_of ed n) k ≡ Some q) → AllPass (takes t) (map shape xs) → EachInside ed n xs → AllFitting ed t xs
all_fitting ed n t [] h a i = tt
all_fitting ed n t (x ∷ xs) h a i =
    (record { taken = All-head (Passes t) (shape x) (map shape xs) a; sound = sound_of ed n t x h i.0 }, all_fitting ed n t xs h (All-tail (Passes t) (shape x) (map shape xs) a) i.1)

no_shapes : (xs : List Bare) → map shape xs ≡ [] → xs ≡ []
no_shapes [] e = refl
no_shapes (x ∷ xs) e = absurd cc

cuts_from : (ed : Edition) (row : List Slot) (n : Node) (xs : List Bare) → Decides ed n row → Fits row (map shape xs) → EachInside ed n xs → Cuts ed row xs
cuts_from ed [] n xs h f i = no_shapes xs f
cuts_from ed (s ∷ row) n xs h f i =
    let p = split_of f.0 f.1 xs f.2 in
    let inside = front_inside ed n p.front p.back (subst (EachInside ed n) p.parts i) in (
      p.front,
      p.back,
      p.parts,
      all_fitting ed n s.takes p.front (decides_head ed n s row h) (subst (λ l. AllPass (takes s.takes) l) (sym p.front_is) f.3) inside.0,
      subst (λ k. Times s.often k) (ap length (sym p.front_is) ∙ length-map p.front shape) f.4,
      cuts_from ed row n p.back (decides_rest ed n s row h) (subst (λ l. Fits row l) (sym p.back_is) f.5) inside.1,
    )

-- arguments that fit a row can be cut into a run for each slot
pub fitted_cuts : (ed : Edition) (n : Node) (xs : Bares) → Fitted ed n xs → Cuts ed (row_of ed n) (args xs)
fitted_cuts ed n xs f = cuts_from ed (row_of ed n) n (args xs) (λ i d k m below e. decides ed n m i d k below e) f.0 (each_inside ed n xs f.1)

-- ---- the converse

entering : (t : Takes) (o : Option Keyword) → takes t (argument_by o) ≡ true → (m : Node) × (entered t o ≡ Some m)
entering t None e = absurd cc
entering t (Some k) e = some_of (enters t k) e
  where
    some_of : (o : Option Node) → is_some o ≡ true → (m : Node) × (o ≡ Some m)
    some_of None e = absurd cc
    some_of (Some m) e = (m, refl)

inside_of : (ed : Edition) (n : Node) (t : Takes) (x : Bare) → ((k : Keyword) (q : Node) → enters t k ≡ Some q → row_in (row_of ed n) k ≡ Some q) → Fitting ed t x → Inside ed n x
inside_of ed n t (text b) h f = tt
inside_of ed n t (number b) h f = tt
inside_of ed n t (word b) h f = tt
inside_of ed n t (node k xs) h f = λ m e.
    let g = entering t (keyword_of k) f.taken in
    let q = entered_by ed n t (keyword_of k) g.0 h g.1 in
    let same : g.0 ≡ m = let z = sym q ∙ e in cc in
    subst (λ r. Fitted ed r xs) same (f.sound g.0 g.1)

run_inside : (ed : Edition) (n : Node) (t : Takes) (xs : List Bare) → ((k : Keyword) (q : Node) → enters t k ≡ Some q → row_in (row_of ed n) k ≡ Some q) → AllFitting ed t xs → EachInside ed n xs
run_inside ed n t [] h f = tt
run_inside ed n t (x ∷ xs) h f = (inside_of ed n t x h f.0, run_inside ed n t xs h f.1)

pub passes_of : (ed : Edition) (t : Takes) (xs : List Bare) → AllFitting ed t xs → AllPass (takes t) (map shape xs)
passes_of ed t [] f = All-nil (Passes t)
passes_of ed t (x ∷ xs) f = All-cons (Passes t) (shape x) (map shape xs) f.0.taken (passes_of ed t xs f.1)

cuts_back : (ed : Edition) (row : List Slot) (n : Node) (xs : List Bare) → Decides ed n row → Cuts ed row xs → Fits row (map shape xs) × EachInside ed n xs
cuts_back ed [] n xs h c = (ap (map shape) c, subst (EachInside ed n) (sym c) tt)
cuts_back ed (s ∷ row) n xs h c =
    let r = cuts_back ed row n c.1 (decides_rest ed n s row h) c.5 in (
      (map shape c.0, map shape c.1, ap (map shape) c.2 ∙ map-append shape c.0 c.1, passes_of ed s.takes c.0 c.3, subst (λ k. Times s.often k) (sym (length-map c.0 shape)) c.4, r.0),
      subst (EachInside ed n) (sym c.2) (back_inside ed n c.0 c.1 (run_inside ed n s.takes c.0 (decides_head ed n s row h) c.3) r.1),
    )

pub cuts_fitted : (ed : Edition) (n : Node) (xs : Bares) → Cuts ed (row_of ed n) (args xs) → Fitted ed n xs
cuts_fitted ed n xs c = let r = cuts_back ed (row_of ed n) n (args xs) (λ i d k m below e. decides ed n m i d k below e) c in (r.0, all_inside ed n xs r.1)

pub cuts_fits : (ed : Edition) (row : List Slot) (xs : List Bare) → Cuts ed row xs → Fits row (map shape xs)
cuts_fits ed [] xs c = ap (map shape) c
cuts_fits ed (s ∷ row) xs c = (map shape c.0, map shape c.1, ap (map shape) c.2 ∙ map-append shape c.0 c.1, passes_of ed s.takes c.0 c.3, subst (λ k. Times s.often k) (sym (length-map c.0 shape)) c.4, cuts_fits ed row c.1 c.5)
