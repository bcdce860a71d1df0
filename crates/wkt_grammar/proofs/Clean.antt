-- A tree that fits has no slot fault.
use Rattle.std.proofs.Common.{◌≡◌, ℕ, suc, Bool, true, false, List, [], ◌∷◌, map, Option, Some, None, refl, sym, ap, ◌∙◌, subst}
use Rattle.std.specs.Prelude.{option_and_then}
use Rattle.std.specs.Option.{option_map}
use Rattle.wkt_tree.specs.declared.token.Delimiter.{Delimiter}
use Rattle.wkt_tree.specs.Tree.{Piece, Tok, tok, Item, Items, last, more, tokens, all_tokens}
use Rattle.wkt_tree.specs.Tree as tree
use Rattle.wkt_tree.specs.Tokens.{Cut}
use Rattle.wkt_grammar.specs.declared.table.Edition.{Edition}
use Rattle.wkt_grammar.specs.declared.table.Slot.{Slot}
use Rattle.wkt_grammar.specs.declared.table.Node.{Node}
use Rattle.wkt_grammar.specs.declared.table.Node.TheVariants as nodes
use Rattle.wkt_grammar.specs.declared.table.Takes.TheVariants as kinds
use Rattle.wkt_grammar.specs.Rows.{row_of}
use Rattle.wkt_grammar.specs.Words.{keyword_of}
use Rattle.wkt_grammar.specs.Walk.{next, missing, walk}
use Rattle.wkt_grammar.proofs.Walks.{fits_end, rows_clear, Stands}
use Rattle.wkt_grammar.specs.declared.fault.SlotFault.{SlotFault}
use Rattle.wkt_grammar.specs.declared.fault.SlotFault.TheVariants.{Missing}
use Rattle.wkt_grammar.specs.Slots.{argument, begin, whole, HasFault}
use Rattle.wkt_grammar.specs.First.{refusal, missing_fault, first, taken, row_by, item_fault, items_fault}
use Rattle.wkt_grammar.specs.Bare.{Bares, none, and, args, bare, all_bare, shape}
use Rattle.wkt_grammar.specs.Fitted.{Inside, AllInside, Fitted, Fitting}
use Rattle.wkt_grammar.proofs.Fitting.{shape-bare, cuts_fitted}
use Rattle.wkt_grammar.proofs.Found.{items_found}
use Rattle.wkt_grammar.proofs.Reach.{fault_in}
use Rattle.wkt_grammar.proofs.Whole.{cut_rises}

-- ---- arguments that fit have no fault, by recursion on the tree

taken_none : (r : SlotFault) (inner : Option SlotFault) (go : List Slot → Option SlotFault) (o : Option (List Slot)) (l : List Slot) → o ≡ Some l → inner ≡ None → go l ≡ None → taken r inner go o ≡ None
taken_none r inner go o l e f g = ap (taken r inner go) e ∙ (ap (λ x. first x (go l)) f ∙ g)

walked : (o : Option (List Slot)) (go : List Slot → Option Stands) (at : Stands) → option_and_then go o ≡ Some at → (l : List Slot) × (o ≡ Some l) × (go l ≡ Some at)
walked None go at e = absurd cc
walked (Some l) go at e = (l, refl, e)

abbrev Walks : List Slot → Bool → Bares → Type 0
Walks left filled xs = (at : Stands) × (walk left filled (map shape (args xs)) ≡ Some at) × (missing at.0 at.1 ≡ None)

walks : (ed : Edition) (n : Node) (xs : Bares) → Fitted ed n xs → Walks (row_of ed n) false xs
walks ed n xs f = fits_end (row_of ed n) (map shape (args xs)) (rows_clear ed n) f.0

none_missing : (l : List Slot) (at : Stands) (end : ℕ) → ◌≡◌ {A = Option Stands} (Some (l, true)) (Some at) → missing at.0 at.1 ≡ None → missing_fault l end ≡ None
none_missing l at end e m =
    let same : ◌≡◌ {A = Stands} at (l, true) = cc in
    ap (option_map (λ s. Missing s end)) (subst (λ (a : Stands). missing a.0 a.1 ≡ None) same m)

node_none : (o : Option Node) (go : Node → Option SlotFault) → ((m : Node) → o ≡ Some m → go m ≡ None) → option_and_then go o ≡ None
node_none None go h = refl
node_none (Some m) go h = h m refl

mutual
  item_none : (ed : Edition) (i : Item) (n : Node) → Inside ed n (bare i) → item_fault ed n i ≡ None
  item_none ed (tree.text p) n h = refl
  item_none ed (tree.number p) n h = refl
  item_none ed (tree.word p) n h = refl
  item_none ed (tree.node k d o items c) n h =
      node_none (row_by ed n (keyword_of k.bytes)) (λ m. items_fault ed m (row_of ed m) false items c.place) (λ m e. items_none ed items m (row_of ed m) false c.place (walks ed m (all_bare items) (h m e)) (h m e).1)

  items_none : (ed : Edition) (items : Items) (n : Node) (left : List Slot) (filled : Bool) (end : ℕ) → Walks left filled (all_bare items) → AllInside ed n (all_bare items) → items_fault ed n left filled items end ≡ None
  items_none ed (last i) n left filled end w a =
      let s = walked (next left filled (shape (bare i))) (λ l. walk l true []) w.0 w.1 in
      taken_none (refusal left filled (argument i) (begin i)) (item_fault ed n i) (λ l. missing_fault l end) (next left filled (argument i)) s.0 (ap (next left filled) (sym (shape-bare i)) ∙ s.1) (item_none ed i n a.0) (none_missing s.0 w.0 end s.2 w.2)
  items_none ed (more i c rest) n left filled end w a =
      let s = walked (next left filled (shape (bare i))) (λ l. walk l true (map shape (args (all_bare rest)))) w.0 w.1 in
      taken_none (refusal left filled (argument i) (begin i)) (item_fault ed n i) (λ l. items_fault ed n l true rest end) (next left filled (argument i)) s.0 (ap (next left filled) (sym (shape-bare i)) ∙ s.1) (item_none ed i n a.0) (items_none ed rest n s.0 true end (w.0, s.2, w.2) a.1)

-- ---- the whole tree

pub fitted_clean : (ed : Edition) (bytes : List ℕ) (k : Piece) (d : Delimiter) (o : Piece) (items : Items) (c : Piece) → Cut 0 bytes (tokens (tree.node k d o items c)) → Fitted ed nodes.Root (and (bare (tree.node k d o items c)) none)
    → (f : SlotFault) → HasFault ed (whole (tree.node k d o items c) (suc c.place)) f → ⊥
fitted_clean ed bytes k d o items c cut w f h =
    let t = tree.node k d o items c in
    let n = items_none ed (last t) nodes.Root (row_of ed nodes.Root) false (suc c.place) (walks ed nodes.Root (and (bare t) none) w) w.1 in
    let g = items_found ed (last t) nodes.Root (row_of ed nodes.Root) false 0 (suc c.place) f (cut_rises bytes (tokens t) cut k d o items c refl) (fault_in ed (whole t (suc c.place)) f (last t) refl h) in
    let x = sym n ∙ g.1 in
    absurd cc

pub fits_clean : (ed : Edition) (bytes : List ℕ) (k : Piece) (d : Delimiter) (o : Piece) (items : Items) (c : Piece) → Cut 0 bytes (tokens (tree.node k d o items c)) → Fitting ed kinds.AnyCrs (bare (tree.node k d o items c)) → (f : SlotFault) → HasFault ed (whole (tree.node k d o items c) (suc c.place)) f → ⊥
fits_clean ed bytes k d o items c cut fit =
    let t = tree.node k d o items c in
    fitted_clean ed bytes k d o items c cut (cuts_fitted ed nodes.Root (and (bare t) none) (bare t ∷ [], [], refl, (fit, tt), refl, refl))
