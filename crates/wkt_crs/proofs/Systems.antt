-- The place of the system that a condition is about.
use Rattle.std.proofs.Common.{◌≡◌, ℕ, List, [], ◌∷◌, ◌++◌, Option, Some, None, refl, sym, ap, ◌∙◌, subst}
use Rattle.crs_part.specs.declared.crs.CrsParts.{CrsParts}
use Rattle.crs_part.specs.declared.crs.CrsParts.TheVariants as parts
use Rattle.crs_part.specs.declared.crs.Single.{Single}
use Rattle.crs_part.specs.declared.crs.Compound.{Compound}
use Rattle.crs_value.specs.declared.broken.Broken.{Broken}
use Rattle.crs_value.specs.declared.broken.Condition.{Condition}
use Rattle.crs_value.specs.declared.broken.Whose.{Whose}
use Rattle.crs_value.specs.declared.broken.Whose.TheVariants.{First, Second, Whole}
use Rattle.crs_value.specs.Checking.{first_broken}
use Rattle.crs_value.proofs.Checks.{first_of, first_of_single}
use Rattle.wkt_tree.specs.declared.token.Delimiter.{Delimiter}
use Rattle.wkt_tree.specs.Tree.{Piece, Item, Items, last, more, tokens}
use Rattle.wkt_tree.specs.Tree as tree
use Rattle.wkt_grammar.specs.Bare.{Bare, args, bare, all_bare}
use Rattle.wkt_grammar.specs.Runs.{One}
use Rattle.wkt_grammar.specs.Leaves.{DenotesText}
use Rattle.wkt_grammar.specs.Denotes.{DenotesParts, DenotesSingle, DenotesCompound}
use Rattle.wkt_crs.specs.Faults.{keyword_place}
use Rattle.wkt_crs.specs.Passing.{TellsPlace}
use Rattle.wkt_crs.proofs.Passes.{item_start}

-- ---- a compound has three arguments or more

record Three (item : Item) : Type 0 where
  k : Piece
  d : Delimiter
  o : Piece
  i : Item
  a : Piece
  j : Item
  b : Piece
  items : Items
  c : Piece
  is : item ≡ tree.node k d o (more i a (more j b items)) c

one_run : {A : Type 0} (D : Bare → A → Type 0) (v : A) (run : List Bare) → One D v run → (x : Bare) × (run ≡ x ∷ [])
one_run D v [] h = absurd h
one_run D v (x ∷ []) h = (x, refl)
one_run D v (x ∷ y ∷ xs) h = absurd h

three_of : (k : Piece) (d : Delimiter) (o : Piece) (items : Items) (c : Piece) (x y z : Bare) (rest : List Bare) → args (all_bare items) ≡ x ∷ y ∷ z ∷ rest → Three (tree.node k d o items c)
three_of k d o (last i) c x y z rest e = absurd cc
three_of k d o (more i a (last j)) c x y z rest e = absurd cc
three_of k d o (more i a (more j b items)) c x y z rest e = record { k = k; d = d; o = o; i = i; a = a; j = j; b = b; items = items; c = c; is = refl }

behind_one : (xs run rest : List Bare) (x : Bare) → xs ≡ run ++ rest → run ≡ x ∷ [] → xs ≡ x ∷ rest
behind_one xs run rest x e h = e ∙ ap (λ (l : List Bare). l ++ rest) h

three : (item : Item) (v : Compound) → DenotesCompound (bare item) v → Three item
three (tree.text p) v h = let e = h.is in absurd cc
three (tree.number p) v h = let e = h.is in absurd cc
three (tree.word p) v h = let e = h.is in absurd cc
three (tree.node k d o items c) v h =
    let same : h.items ≡ all_bare items = let e = h.is in cc in
    let r = h.runs in
    let x = one_run DenotesText v.name r.0 r.4 in
    let y = one_run DenotesSingle v.first r.5.0 r.5.4 in
    let z = one_run DenotesSingle v.second r.5.5.0 r.5.5.4 in
    three_of k d o items c x.0 y.0 z.0 r.5.5.1
    (ap args (sym same) ∙ (behind_one (args h.items) r.0 r.1 x.0 r.2 x.1 ∙ ap (λ (l : List Bare). x.0 ∷ l) (behind_one r.1 r.5.0 r.5.1 y.0 r.5.2 y.1 ∙ ap (λ (l : List Bare). y.0 ∷ l) (behind_one r.5.1 r.5.5.0 r.5.5.1 z.0 r.5.5.2 z.1))))

-- ---- only a compound has components with conditions

who_of : Option Broken → Whose
who_of None = Whole
who_of (Some b) = b.whose

whole_only : (o : Option Condition) (who : Whose) (condition : Condition) → first_of Whole o ≡ Some (record { whose = who; condition = condition }) → who ≡ Whole
unfolding who_of
whole_only None who condition e = absurd cc
whole_only (Some k) who condition e = sym (ap who_of e)

of_single : (crs : Single) (whose : Whose) (condition : Condition) → first_broken (parts.Single crs) ≡ Some (record { whose = whose; condition = condition }) → whose ≡ Whole
of_single crs whose condition e = whole_only _ whose condition (sym (first_of_single crs) ∙ e)

whole_place : (item : Item) (who : Whose) (at : ℕ) → who ≡ Whole → TellsPlace (tokens item) who at → at ≡ keyword_place item who
whole_place item who at e h =
    subst (λ w. at ≡ keyword_place item w) (sym e) (subst (λ w. TellsPlace (tokens item) w at) e h ∙ item_start item)

three_place : (item : Item) → Three item → (whose : Whose) (at : ℕ) → TellsPlace (tokens item) whose at → at ≡ keyword_place item whose
three_place item t Whole at h = h ∙ item_start item
three_place item t First at h = h t.k t.d t.o t.i t.a t.j t.b t.items t.c (ap tokens t.is) ∙ ap (λ i. keyword_place i First) (sym t.is)
three_place item t Second at h = h t.k t.d t.o t.i t.a t.j t.b t.items t.c (ap tokens t.is) ∙ ap (λ i. keyword_place i Second) (sym t.is)

pub told_place : (item : Item) (value : CrsParts) (whose : Whose) (condition : Condition) (at : ℕ) → DenotesParts (bare item) value → first_broken value ≡ Some (record { whose = whose; condition = condition }) → TellsPlace (tokens item) whose at → at ≡ keyword_place item whose
told_place item (parts.Single crs) whose condition at d e h = whole_place item whose at (of_single crs whose condition e) h
told_place item (parts.Compound crs) whose condition at d e h = three_place item (three item crs d) whose at h
