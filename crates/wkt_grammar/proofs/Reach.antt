-- The faults by recursion on the tree are the faults of the nodes that are reached.
use Rattle.std.proofs.Common.{◌≡◌, ℕ, Bool, true, false, cond, List, [], ◌∷◌, ◌++◌, map, Option, Some, None, refl, sym, ap, ◌∙◌, subst, append_assoc, inl, inr}
use Rattle.std.specs.Prelude.{◌⊎◌, ◌||◌, option_and_then}
use Rattle.std.specs.Option.{option_map, is_some}
use Rattle.std.proofs.lemmas.List.{map-append}
use Rattle.wkt_tree.specs.declared.token.Delimiter.{Delimiter}
use Rattle.wkt_tree.specs.Tree.{Piece, Item, Items, text, number, word, node, last, more}
use Rattle.wkt_grammar.specs.declared.table.Edition.{Edition}
use Rattle.wkt_grammar.specs.declared.table.Slot.{Slot}
use Rattle.wkt_grammar.specs.declared.table.SlotName.{SlotName}
use Rattle.wkt_grammar.specs.declared.table.Keyword.{Keyword}
use Rattle.wkt_grammar.specs.declared.table.Node.{Node}
use Rattle.wkt_grammar.specs.declared.table.Argument.{Argument}
use Rattle.wkt_grammar.specs.declared.table.Argument.TheVariants as arguments
use Rattle.wkt_grammar.specs.Rows.{row_of, row_in, Admitted}
use Rattle.wkt_grammar.specs.Words.{keyword_of, is_cs_kind, is_direction}
use Rattle.wkt_grammar.specs.Walk.{next, walk, missing}
use Rattle.wkt_grammar.proofs.Walks.{goes_on, admits, rows_clear, walk_push, missing_unfit, Stands}
use Rattle.wkt_grammar.proofs.Missing.{first_missing_is, missing_is}
use Rattle.wkt_grammar.proofs.Tables.{lone_count, lone_kind, lone_direction, front_admitted}
use Rattle.wkt_grammar.specs.declared.fault.SlotFault.{SlotFault}
use Rattle.wkt_grammar.specs.declared.fault.SlotFault.TheVariants.{NotHere, Missing, NotCount, WordUnknown}
use Rattle.wkt_grammar.specs.Slots.{argument, argument_by, begin, list, Body, body, IsRowOf, Reaches, itself, inside, IsRefusal, IsRefused, IsMissing, HasFault}
use Rattle.crs_number.specs.Count.{is_count}
use Rattle.wkt_grammar.specs.First.{refusal, number_refusal, word_refusal, missing_fault, row_by}
use Rattle.wkt_grammar.proofs.Found.{InTaken, InRow, InItem, InItems}

abbrev args_of : List Item → List Argument
args_of is = map argument is

-- ---- one more argument

abbrev At : Edition → Node → List Argument → List Slot → Bool → Type 0
At ed n args left filled = walk (row_of ed n) false args ≡ Some (left, filled)

admit_next : (ed : Edition) (n : Node) (args : List Argument) (left : List Slot) (filled : Bool) (a : Argument) → At ed n args left filled → Admitted (row_of ed n) (args ++ a ∷ []) → (l : List Slot) × (next left filled a ≡ Some l)
admit_next ed n args left filled a w ad =
    let g = goes_on (row_of ed n) (args ++ a ∷ []) (rows_clear ed n) ad in
    by g.0 (next left filled a) refl (sym (walk_push args a (row_of ed n) left filled w) ∙ g.1)
  where
    by : (y : List Slot × Bool) (o : Option (List Slot)) → next left filled a ≡ o → option_and_then (λ l. Some (l, true)) o ≡ Some y → (l : List Slot) × (next left filled a ≡ Some l)
    by y None e h = absurd cc
    by y (Some l) e h = (l, e)

push_at : (ed : Edition) (n : Node) (args : List Argument) (left l : List Slot) (filled : Bool) (a : Argument) → At ed n args left filled → next left filled a ≡ Some l → At ed n (args ++ a ∷ []) l true
push_at ed n args left l filled a w e = walk_push args a (row_of ed n) left filled w ∙ ap (option_and_then (λ x. Some (x, true))) e

next_admit : (ed : Edition) (n : Node) (args : List Argument) (left l : List Slot) (filled : Bool) (a : Argument) → At ed n args left filled → next left filled a ≡ Some l → Admitted (row_of ed n) (args ++ a ∷ [])
next_admit ed n args left l filled a w e = admits (row_of ed n) (args ++ a ∷ []) (l, true) (push_at ed n args left l filled a w e)

next_no : (ed : Edition) (n : Node) (args : List Argument) (left : List Slot) (filled : Bool) (a : Argument) → At ed n args left filled → next left filled a ≡ None → Admitted (row_of ed n) (args ++ a ∷ []) → ⊥
next_no ed n args left filled a w e ad = let g = admit_next ed n args left filled a w ad in let h = sym e ∙ g.1 in absurd cc

-- ---- the fault of a refused argument

module _ (ed : Edition) (n : Node) (args : List Argument) (left : List Slot) (filled : Bool) (w : At ed n args left filled) where
  abbrev Can : Argument → Bool → Type 0
  Can a true = Admitted (row_of ed n) (args ++ a ∷ [])
  Can a false = Admitted (row_of ed n) (args ++ a ∷ []) → ⊥

  can : (a : Argument) → Can a (is_some (next left filled a))
  can a =
      elim (next left filled a) as (λ o. next left filled a ≡ o → Can a (is_some o)) [
        | None ↦ λ e. next_no ed n args left filled a w e
        | Some l ↦ λ e. next_admit ed n args left l filled a w e
      ] refl

  abbrev No : Argument → Type 0
  No a = Admitted (row_of ed n) (args ++ a ∷ []) → ⊥

  number_is : (p : Piece) → No arguments.Number ⊎ No arguments.Count → IsRefusal (row_of ed n) args (number p) (number_refusal left filled p.place)
  number_is p r =
      elim (is_some (next left filled arguments.Count)) as (λ b. Can arguments.Count b → IsRefusal (row_of ed n) args (number p) (cond b (NotCount p.place) (NotHere p.place))) [
        | true ↦ λ c. elim r [ inl no_number ↦ inl (refl, (c, λ a ad. lone_count ed n args a c no_number ad)) | inr no_count ↦ absurd (no_count c) ]
        | false ↦ λ c. inr (refl, λ o. c o.0)
      ] (can arguments.Count)

  word_is : (p : Piece) → IsRefusal (row_of ed n) args (word p) (word_refusal left filled p.place)
  word_is p = by (is_some (next left filled arguments.CsKind)) (is_some (next left filled arguments.Direction)) (can arguments.CsKind) (can arguments.Direction)
    where
      by : (b d : Bool) → Can arguments.CsKind b → Can arguments.Direction d → IsRefusal (row_of ed n) args (word p) (cond (b || d) (WordUnknown p.place) (NotHere p.place))
      by true d x y = inl (refl, (inl x, λ a ad. inl (lone_kind ed n args a x ad)))
      by false true x y = inl (refl, (inr y, λ a ad. inr (lone_direction ed n args a y ad)))
      by false false x y = inr (refl, λ z. elim z.0 [ inl u ↦ x u | inr u ↦ y u ])

  refusal_is : (i : Item) → No (argument i) → IsRefusal (row_of ed n) args i (refusal left filled (argument i) (begin i))
  refusal_is (text p) r = refl
  refusal_is (number p) r = elim (is_count p.bytes) as (λ b. No (cond b arguments.Count arguments.Number) → IsRefusal (row_of ed n) args (number p) (refusal left filled (cond b arguments.Count arguments.Number) p.place)) [ true ↦ λ x. number_is p (inr x) | false ↦ λ x. number_is p (inl x) ] r
  refusal_is (word p) r =
      elim (is_cs_kind p.bytes) as (λ b. IsRefusal (row_of ed n) args (word p) (refusal left filled (cond b arguments.CsKind (cond (is_direction p.bytes) arguments.Direction arguments.OtherWord)) p.place)) [
        | true ↦ word_is p
        | false ↦ elim (is_direction p.bytes) as (λ b. IsRefusal (row_of ed n) args (word p) (refusal left filled (cond b arguments.Direction arguments.OtherWord) p.place)) [ true ↦ word_is p | false ↦ word_is p ]
      ]
  refusal_is (node k d o items c) r = elim (keyword_of k.bytes) as (λ x. refusal left filled (argument_by x) k.place ≡ NotHere k.place) [ None ↦ refl | Some y ↦ refl ]

same_refusal : (row : List Slot) (args : List Argument) (i : Item) (f g : SlotFault) → IsRefusal row args i f → IsRefusal row args i g → f ≡ g
same_refusal row args (text p) f g x y = x ∙ sym y
same_refusal row args (number p) f g (inl x) (inl y) = x.0 ∙ sym y.0
same_refusal row args (number p) f g (inl x) (inr y) = absurd (y.1 x.1)
same_refusal row args (number p) f g (inr x) (inl y) = absurd (x.1 y.1)
same_refusal row args (number p) f g (inr x) (inr y) = x.0 ∙ sym y.0
same_refusal row args (word p) f g (inl x) (inl y) = x.0 ∙ sym y.0
same_refusal row args (word p) f g (inl x) (inr y) = absurd (y.1 x.1)
same_refusal row args (word p) f g (inr x) (inl y) = absurd (x.1 y.1)
same_refusal row args (word p) f g (inr x) (inr y) = x.0 ∙ sym y.0
same_refusal row args (node k d o items c) f g x y = x ∙ sym y

-- ---- a fault by recursion is a fault of a node that is reached

row_by_is : (ed : Edition) (n m : Node) (o : Option Keyword) → row_by ed n o ≡ Some m → (k : Keyword) × (o ≡ Some k) × (row_in (row_of ed n) k ≡ Some m)
row_by_is ed n m None e = absurd cc
row_by_is ed n m (Some k) e = (k, refl, e)

missing_some : (o : Option SlotName) (end : ℕ) (g : SlotFault) → option_map (λ s. Missing s end) o ≡ Some g → (s : SlotName) × (o ≡ Some s) × (g ≡ Missing s end)
missing_some None end g e = absurd cc
missing_some (Some s) end g e = (s, refl, cc)

args_push : (done : List Item) (i : Item) → args_of (done ++ i ∷ []) ≡ args_of done ++ argument i ∷ []
args_push done i = map-append argument done (i ∷ [])

refused_has : (ed : Edition) (n : Node) (left : List Slot) (filled : Bool) (i : Item) (c : ℕ) (g : SlotFault) (done after : List Item) → At ed n (args_of done) left filled → next left filled (argument i) ≡ None → refusal left filled (argument i) (begin i) ≡ g
    → HasFault ed (body n (done ++ i ∷ after) c) g
refused_has ed n left filled i c g done after w e r = record {
  at = body n (done ++ i ∷ after) c;
  reached = itself (body n (done ++ i ∷ after) c);
  own = inl (record {
    before = done;
    item = i;
    after = after;
    parts = refl;
    admitted = admits (row_of ed n) (args_of done) (left, filled) w;
    refused = next_no ed n (args_of done) left filled (argument i) w e;
    fault = subst (λ f. IsRefusal (row_of ed n) (args_of done) i f) r (refusal_is ed n (args_of done) left filled w i (next_no ed n (args_of done) left filled (argument i) w e));
  });
}

missing_has : (ed : Edition) (n : Node) (l : List Slot) (c : ℕ) (g : SlotFault) (done : List Item) → At ed n (args_of done) l true → missing_fault l c ≡ Some g → HasFault ed (body n done c) g
missing_has ed n l c g done w e =
    let m = missing_some (missing l true) c g e in
    record {
      at = body n done c;
      reached = itself (body n done c);
      own = inr (record {
        admitted = admits (row_of ed n) (args_of done) (l, true) w;
        unfit = missing_unfit ed n (l, true) m.0 (args_of done) w m.1;
        name = m.0;
        slot = first_missing_is (row_of ed n) (args_of done) (l, true) m.0 w m.1;
        fault = m.2;
      });
    }

mutual
  item_has : (ed : Edition) (i : Item) (n : Node) (g : SlotFault) (done after : List Item) (c : ℕ) → Admitted (row_of ed n) (args_of done ++ argument i ∷ []) → InItem ed n i g → HasFault ed (body n (done ++ i ∷ after) c) g
  item_has ed (text p) n g done after c ad x = absurd x
  item_has ed (number p) n g done after c ad x = absurd x
  item_has ed (word p) n g done after c ad x = absurd x
  item_has ed (node k d o items e) n g done after c ad x =
      elim (row_by ed n (keyword_of k.bytes)) as (λ r. row_by ed n (keyword_of k.bytes) ≡ r → InRow (λ m. InItems ed m (row_of ed m) false items e.place g) r → HasFault ed (body n (done ++ node k d o items e ∷ after) c) g) [
        | None ↦ λ q y. absurd y
        | Some m ↦ λ q y. let h = items_has ed items m (row_of ed m) false e.place g [] refl y in
            record { at = h.at; reached = inside (body n (done ++ node k d o items e ∷ after) c) h.at done k d o items e after m refl ad (row_by_is ed n m (keyword_of k.bytes) q) h.reached; own = h.own }
      ] refl x

  pub items_has : (ed : Edition) (items : Items) (n : Node) (left : List Slot) (filled : Bool) (c : ℕ) (g : SlotFault) (done : List Item) → At ed n (args_of done) left filled → InItems ed n left filled items c g → HasFault ed (body n (done ++ list items) c) g
  items_has ed (last i) n left filled c g done w x =
      elim (next left filled (argument i)) as (λ o. next left filled (argument i) ≡ o → InTaken (refusal left filled (argument i) (begin i) ≡ g) (InItem ed n i g) (λ l. missing_fault l c ≡ Some g) o → HasFault ed (body n (done ++ i ∷ []) c) g) [
        | None ↦ λ q y. refused_has ed n left filled i c g done [] w q y
        | Some l ↦ λ q y. elim y [
          | inl z ↦ item_has ed i n g done [] c (next_admit ed n (args_of done) left l filled (argument i) w q) z
          | inr z ↦ missing_has ed n l c g (done ++ i ∷ []) (ap (walk (row_of ed n) false) (args_push done i) ∙ push_at ed n (args_of done) left l filled (argument i) w q) z
        ]
      ] refl x
  items_has ed (more i k rest) n left filled c g done w x =
      elim (next left filled (argument i)) as (λ o. next left filled (argument i) ≡ o → InTaken (refusal left filled (argument i) (begin i) ≡ g) (InItem ed n i g) (λ l. InItems ed n l true rest c g) o → HasFault ed (body n (done ++ i ∷ list rest) c) g) [
        | None ↦ λ q y. refused_has ed n left filled i c g done (list rest) w q y
        | Some l ↦ λ q y. elim y [
          | inl z ↦ item_has ed i n g done (list rest) c (next_admit ed n (args_of done) left l filled (argument i) w q) z
          | inr z ↦ subst (λ a. HasFault ed (body n a c) g) (append_assoc done (i ∷ []) (list rest))
              (items_has ed rest n l true c g (done ++ i ∷ []) (ap (walk (row_of ed n) false) (args_push done i) ∙ push_at ed n (args_of done) left l filled (argument i) w q) z)
        ]
      ] refl x

-- ---- a fault of a node that is reached is a fault by recursion

-- a fault at one argument: it is refused, or a fault is inside it
abbrev Here : Edition → Node → List Slot → Bool → Item → SlotFault → Type 0
Here ed n l f i g = InTaken (refusal l f (argument i) (begin i) ≡ g) (InItem ed n i g) (λ x. ⊥) (next l f (argument i))

here_taken : (R I : Type 0) (G : List Slot → Type 0) (o : Option (List Slot)) → InTaken R I (λ x. ⊥) o → InTaken R I G o
here_taken R I G None x = x
here_taken R I G (Some l) (inl x) = inl x
here_taken R I G (Some l) (inr x) = absurd x

on_walk : (left : List Slot) (filled : Bool) (a : Argument) (args : List Argument) (at : List Slot × Bool) (R I : Type 0) (G : List Slot → Type 0) → walk left filled (a ∷ args) ≡ Some at → ((l : List Slot) → walk l true args ≡ Some at → G l) → InTaken R I G (next left filled a)
on_walk left filled a args at R I G w h =
    elim (next left filled a) as (λ o. option_and_then (λ l. walk l true args) o ≡ Some at → InTaken R I G o) [
      | None ↦ λ e. absurd cc
      | Some l ↦ λ e. inr (h l e)
    ] w

here_at : (ed : Edition) (n : Node) (left : List Slot) (filled : Bool) (at : Stands) (j i : Item) (g : SlotFault) → j ≡ i → ◌≡◌ {A = Option Stands} (Some (left, filled)) (Some at) → Here ed n at.0 at.1 i g → Here ed n left filled j g
here_at ed n left filled at j i g e w h =
    let same : ◌≡◌ {A = Stands} at (left, filled) = cc in
    subst (λ (y : Item). Here ed n left filled y g) (sym e) (subst (λ (x : Stands). Here ed n x.0 x.1 i g) same h)

at_position : (ed : Edition) (items : Items) (n : Node) (before : List Item) (i : Item) (after : List Item) (left : List Slot) (filled : Bool) (at : Stands) (end : ℕ) (g : SlotFault) → list items ≡ before ++ i ∷ after → walk left filled (args_of before) ≡ Some at → Here ed n at.0 at.1 i g → InItems ed n left filled items end g
at_position ed (last j) n [] i after left filled at end g e w h = let same : j ≡ i = cc in here_taken (refusal left filled (argument j) (begin j) ≡ g) (InItem ed n j g) (λ l. missing_fault l end ≡ Some g) (next left filled (argument j)) (here_at ed n left filled at j i g same w h)
at_position ed (last j) n (b ∷ []) i after left filled at end g e w h = absurd cc
at_position ed (last j) n (b ∷ (x ∷ before)) i after left filled at end g e w h = absurd cc
at_position ed (more j k rest) n [] i after left filled at end g e w h = let same : j ≡ i = cc in here_taken (refusal left filled (argument j) (begin j) ≡ g) (InItem ed n j g) (λ l. InItems ed n l true rest end g) (next left filled (argument j)) (here_at ed n left filled at j i g same w h)
at_position ed (more j k rest) n (b ∷ before) i after left filled at end g e w h =
    let same : b ≡ j = cc in
    let others : list rest ≡ before ++ i ∷ after = cc in
    on_walk left filled (argument j) (args_of before) at _ _ (λ l. InItems ed n l true rest end g) (ap (λ y. walk left filled (argument y ∷ args_of before)) (sym same) ∙ w) (λ l v. at_position ed rest n before i after l true at end g others v h)

at_end : (ed : Edition) (items : Items) (n : Node) (left : List Slot) (filled : Bool) (at : Stands) (end : ℕ) (s : SlotName) → walk left filled (args_of (list items)) ≡ Some at → missing at.0 at.1 ≡ Some s → InItems ed n left filled items end (Missing s end)
at_end ed (last i) n left filled at end s w m =
    on_walk left filled (argument i) [] at _ _ (λ l. missing_fault l end ≡ Some (Missing s end)) w
    (λ l v. let same : ◌≡◌ {A = Stands} at (l, true) = cc in ap (option_map (λ x. Missing x end)) (subst (λ (x : Stands). missing x.0 x.1 ≡ Some s) same m))
at_end ed (more i k rest) n left filled at end s w m =
    on_walk left filled (argument i) (args_of (list rest)) at _ _ (λ l. InItems ed n l true rest end (Missing s end)) w (λ l v. at_end ed rest n l true at end s v m)

refused_in : (ed : Edition) (b : Body) (g : SlotFault) (items : Items) → b.args ≡ list items → IsRefused ed b g → InItems ed b.row (row_of ed b.row) false items b.closing g
refused_in ed b g items e r =
    let n = b.row in
    let before = args_of r.before in
    let w = goes_on (row_of ed n) before (rows_clear ed n) r.admitted in
    at_position ed items n r.before r.item r.after (row_of ed n) false w.0 b.closing g (sym e ∙ r.parts) w.1
    (elim (next w.0.0 w.0.1 (argument r.item)) as (λ o. next w.0.0 w.0.1 (argument r.item) ≡ o → InTaken (refusal w.0.0 w.0.1 (argument r.item) (begin r.item) ≡ g) (InItem ed n r.item g) (λ x. ⊥) o) [
      | None ↦ λ q. same_refusal (row_of ed n) before r.item (refusal w.0.0 w.0.1 (argument r.item) (begin r.item)) g (refusal_is ed n before w.0.0 w.0.1 w.1 r.item r.refused) r.fault
      | Some l ↦ λ q. absurd (r.refused (next_admit ed n before w.0.0 l w.0.1 (argument r.item) w.1 q))
    ] refl)

missing_in : (ed : Edition) (b : Body) (g : SlotFault) (items : Items) → b.args ≡ list items → IsMissing ed b g → InItems ed b.row (row_of ed b.row) false items b.closing g
missing_in ed b g items e r =
    let n = b.row in
    let args = args_of b.args in
    let w = goes_on (row_of ed n) args (rows_clear ed n) r.admitted in
    let m = missing_is (row_of ed n) args w.0 r.name (rows_clear ed n) w.1 r.slot in
    subst (λ f. InItems ed n (row_of ed n) false items b.closing f) (sym r.fault) (at_end ed items n (row_of ed n) false w.0 b.closing r.name (ap (λ (l : List Item). walk (row_of ed n) false (args_of l)) (sym e) ∙ w.1) m)

inside_in : (ed : Edition) (n m : Node) (before : List Item) (k : Piece) (d : Delimiter) (o : Piece) (items : Items) (c : Piece) (after : List Item) (all : Items) (end : ℕ) (g : SlotFault) → list all ≡ before ++ node k d o items c ∷ after → Admitted (row_of ed n) (args_of before ++ argument (node k d o items c) ∷ []) → IsRowOf ed n k m
    → InItems ed m (row_of ed m) false items c.place g → InItems ed n (row_of ed n) false all end g
inside_in ed n m before k d o items c after all end g e ad r h =
    let i = node k d o items c in
    let w = goes_on (row_of ed n) (args_of before) (rows_clear ed n) (front_admitted (row_of ed n) (args_of before) (argument i) ad) in
    let x = admit_next ed n (args_of before) w.0.0 w.0.1 (argument i) w.1 ad in
    let known : row_by ed n (keyword_of k.bytes) ≡ Some m = ap (row_by ed n) r.1 ∙ r.2 in
    let in_item : InItem ed n i g = subst (λ y. InRow (λ z. InItems ed z (row_of ed z) false items c.place g) y) (sym known) h in
    let here : InTaken (refusal w.0.0 w.0.1 (argument i) (begin i) ≡ g) (InItem ed n i g) (λ z. ⊥) (Some x.0) = inl in_item in
    at_position ed all n before i after (row_of ed n) false w.0 end g e w.1 (subst (λ y. InTaken (refusal w.0.0 w.0.1 (argument i) (begin i) ≡ g) (InItem ed n i g) (λ z. ⊥) y) (sym x.1) here)

own_in : (ed : Edition) (b : Body) (g : SlotFault) (items : Items) → b.args ≡ list items → IsRefused ed b g ⊎ IsMissing ed b g → InItems ed b.row (row_of ed b.row) false items b.closing g
own_in ed b g items e (inl r) = refused_in ed b g items e r
own_in ed b g items e (inr r) = missing_in ed b g items e r

reach_in : (ed : Edition) (b at : Body) (g : SlotFault) → Reaches ed b at → IsRefused ed at g ⊎ IsMissing ed at g → (items : Items) → b.args ≡ list items → InItems ed b.row (row_of ed b.row) false items b.closing g
reach_in ed _ _ g (itself b) own items e = own_in ed b g items e own
reach_in ed _ _ g (inside b at before k d o inner c after m p ad r next) own items e =
    inside_in ed b.row m before k d o inner c after items b.closing g (sym e ∙ p) ad r (reach_in ed (body m (list inner) c.place) at g next own inner refl)

pub fault_in : (ed : Edition) (b : Body) (g : SlotFault) (items : Items) → b.args ≡ list items → HasFault ed b g → InItems ed b.row (row_of ed b.row) false items b.closing g
fault_in ed b g items e h = reach_in ed b h.at g h.reached h.own items e
