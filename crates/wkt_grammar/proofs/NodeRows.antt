-- The laws of a node follow from those of its slots.
use Rattle.std.proofs.Common.{◌≡◌, ℕ, zero, suc, ◌+◌, ◌≤◌, Bool, true, false, List, [], ◌∷◌, ◌++◌, length, map, Option, Some, None, refl, sym, ap, ◌∙◌, subst, arith}
use Rattle.std.specs.Prelude.{◌&&◌, not}
use Rattle.std.specs.Option.{is_some}
use Rattle.std.specs.List.{AllPass, list_all}
use Rattle.std.proofs.lemmas.Bool.{and_parts}
use Rattle.std.proofs.lemmas.List.{length-map, map-append}
use Rattle.std.proofs.lemmas.List.Elements.{All-nil, All-cons, All-head, All-tail}
use Rattle.std.proofs.lemmas.Option.{same_Some}
use Rattle.wkt_grammar.specs.declared.table.Edition.TheVariants as editions
use Rattle.wkt_grammar.specs.declared.table.Slot.{Slot}
use Rattle.wkt_grammar.specs.declared.table.SlotName.{SlotName}
use Rattle.wkt_grammar.specs.declared.table.Node.{Node}
use Rattle.wkt_grammar.specs.declared.table.Keyword.{Keyword}
use Rattle.wkt_grammar.specs.declared.table.Takes.{Takes}
use Rattle.wkt_grammar.specs.declared.table.Often.{Often}
use Rattle.wkt_grammar.specs.declared.table.Often.TheVariants.{Once, AtMostOnce, Any, AtLeastOnce}
use Rattle.wkt_grammar.specs.Rows.{takes, enters, Times, Fits, is_required}
use Rattle.wkt_grammar.specs.Words.{spelling, keyword_of}
use Rattle.wkt_grammar.proofs.Keywords.{keyword_spelled}
use Rattle.wkt_grammar.specs.Walk.{is_many, may_begin, all_arguments, is_clear}
use Rattle.wkt_grammar.proofs.Walks.{begins, each_argument, rows_clear, Passes}
use Rattle.wkt_grammar.specs.Slots.{argument_by}
use Rattle.wkt_grammar.specs.Bare.{Bare, Bares, node, args, bares, shape}
use Rattle.wkt_grammar.specs.Fitted.{entered}
use Rattle.wkt_grammar.proofs.Fitting.{cuts_fitted}
use Rattle.wkt_grammar.specs.SecondEdition.{row_of, Fitted, Fitting, AllFitting, Cuts}
use Rattle.wkt_grammar.specs.Runs.{Fields, nothing, ◌&◌, Runs, IsNode, One, Maybe, Each, listed, AtLeastOne}
use Rattle.crs_part.specs.declared.many.NonEmpty.{NonEmpty}
use Rattle.wkt_grammar.specs.Trees as trees

-- ---- arguments that denote the fields of a row fit it

pub runs_fit : (row : List Slot) (fields : Fields) (xs : List Bare) → Runs row fields xs → Fits row (map shape xs)
runs_fit [] nothing xs r = ap (map shape) r
runs_fit [] (P & fields) xs r = absurd r
runs_fit (s ∷ row) nothing xs r = absurd r
runs_fit (s ∷ row) (P & fields) xs (run, rest, e, m, p, r) = (map shape run, map shape rest, ap (map shape) e ∙ map-append shape run rest, m.0, subst (λ k. Times s.often k) (sym (length-map run shape)) m.1, runs_fit row fields rest r)

-- ---- arguments can be cut into the runs of a row in one way only

-- a slot that takes exactly one argument takes no second one
once_full : (o : Often) (k n : ℕ) → (is_required o && not (is_many o)) ≡ true → Times o (zero + k) → Times o (suc n + k) → ⊥
once_full Once k n e p q = omega (arith, p, q)
once_full AtMostOnce k n e p q = absurd cc
once_full Any k n e p q = absurd cc
once_full AtLeastOnce k n e p q = absurd cc

not_both : (c t b : Bool) → not (not c && (t && b)) ≡ true → t ≡ true → b ≡ true → c ≡ true
not_both true t b e p q = refl
not_both false true true e p q = absurd cc
not_both false true false e p q = absurd cc
not_both false false b e p q = absurd cc

-- the run of the first slot cannot end here in one cut of the arguments and continue in another
ends_here : (s : Slot) (row : List Slot) (y : Bare) (r rest rest' : List Bare) (k : ℕ) → is_clear (s ∷ row) ≡ true → Passes s.takes (shape y) → Times s.often (zero + k) → Times s.often (suc (length r) + k) → Fits row (map shape rest) → rest ≡ y ∷ (r ++ rest') → ⊥
ends_here s row y r rest rest' k c p t u f e =
    let parts = and_parts (list_all (λ x. not (not (is_required s.often && not (is_many s.often)) && (takes s.takes x && may_begin row x))) all_arguments) (is_clear row) c in
    let test = each_argument (λ x. not (not (is_required s.often && not (is_many s.often)) && (takes s.takes x && may_begin row x))) (shape y) parts.0 in
    let g : Fits row (shape y ∷ map shape (r ++ rest')) = subst (λ l. Fits row (map shape l)) e f in
    let b = begins row (shape y) (map shape (r ++ rest')) g in
    once_full s.often k (length r) (not_both (is_required s.often && not (is_many s.often)) (takes s.takes (shape y)) (may_begin row (shape y)) test p b) t u

record SameCut (run run' rest rest' : List Bare) : Type 0 where
  pub run_is : run ≡ run'
  pub rest_is : rest ≡ rest'

same_cut : (s : Slot) (row : List Slot) (run run' rest rest' : List Bare) (k : ℕ) → is_clear (s ∷ row) ≡ true → AllPass (takes s.takes) (map shape run) → AllPass (takes s.takes) (map shape run')
    → Times s.often (length run + k) → Times s.often (length run' + k) → Fits row (map shape rest) → Fits row (map shape rest') → run ++ rest ≡ run' ++ rest' → SameCut run run' rest rest'
same_cut s row [] [] rest rest' k c a a' t t' f f' e = record { run_is = refl; rest_is = e }
same_cut s row [] (y ∷ r) rest rest' k c a a' t t' f f' e = absurd (ends_here s row y r rest rest' k c (All-head (Passes s.takes) (shape y) (map shape r) a') t t' f e)
same_cut s row (y ∷ r) [] rest rest' k c a a' t t' f f' e = absurd (ends_here s row y r rest' rest k c (All-head (Passes s.takes) (shape y) (map shape r) a) t' t f' (sym e))
same_cut s row (x ∷ r) (y ∷ r') rest rest' k c a a' t t' f f' e =
    let same : x ≡ y = cc in
    let others : r ++ rest ≡ r' ++ rest' = cc in
    let n : suc (length r) + k ≡ length r + suc k = omega arith in
    let n' : suc (length r') + k ≡ length r' + suc k = omega arith in
    let q = same_cut s row r r' rest rest' (suc k) c (All-tail (Passes s.takes) (shape x) (map shape r) a) (All-tail (Passes s.takes) (shape y) (map shape r') a') (subst (λ m. Times s.often m) n t) (subst (λ m. Times s.often m) n' t') f f' others in
    record { run_is = ap (λ z. z ∷ r) same ∙ ap (λ (l : List Bare). y ∷ l) q.run_is; rest_is = q.rest_is }

-- ---- laws of an argument, of a slot, of a row

-- an argument that denotes a value fits the slot and denotes no other value, and the canonical tree of a value denotes it
pub record Law {A : Type 0} (t : Takes) (D : Bare → A → Type 0) (tree : A → Bare) : Type 0 where
  pub fits : (x : Bare) (v : A) → D x v → Fitting t x
  pub once : (x : Bare) (v w : A) → D x v → D x w → v ≡ w
  pub spelled : (v : A) → D (tree v) v

pub record SlotLaw {A : Type 0} (s : Slot) (P : A → List Bare → Type 0) (run : A → List Bare) : Type 0 where
  pub fits : (v : A) (xs : List Bare) → P v xs → AllFitting s.takes xs
  pub once : (xs : List Bare) (v w : A) → P v xs → P w xs → v ≡ w
  pub spelled : (v : A) → P v (run v)
  pub times : (v : A) → Times s.often (length (run v))

abbrev pub slot : SlotName → Takes → Often → Slot
slot n t o = record { name = n; takes = t; often = o }

one_fits : {A : Type 0} (t : Takes) (D : Bare → A → Type 0) (tree : A → Bare) → Law t D tree → (v : A) (xs : List Bare) → One D v xs → AllFitting t xs
one_fits t D tree law v [] p = absurd p
one_fits t D tree law v (x ∷ []) p = (law.fits x v p, tt)
one_fits t D tree law v (x ∷ y ∷ xs) p = absurd p

one_once : {A : Type 0} (t : Takes) (D : Bare → A → Type 0) (tree : A → Bare) → Law t D tree → (xs : List Bare) (v w : A) → One D v xs → One D w xs → v ≡ w
one_once t D tree law [] v w p q = absurd p
one_once t D tree law (x ∷ []) v w p q = law.once x v w p q
one_once t D tree law (x ∷ y ∷ xs) v w p q = absurd p

pub one : {A : Type 0} {t : Takes} {D : Bare → A → Type 0} {tree : A → Bare} (n : SlotName) → Law t D tree → SlotLaw (slot n t Once) (One D) (λ v. tree v ∷ [])
one {A} {t} {D} {tree} n law = record {
  fits = one_fits t D tree law;
  once = one_once t D tree law;
  spelled = law.spelled;
  times = λ v. refl;
}

maybe_fits : {A : Type 0} (t : Takes) (D : Bare → A → Type 0) (tree : A → Bare) → Law t D tree → (v : Option A) (xs : List Bare) → Maybe D v xs → AllFitting t xs
maybe_fits t D tree law None [] p = tt
maybe_fits t D tree law None (x ∷ xs) p = absurd p
maybe_fits t D tree law (Some v) xs p = one_fits t D tree law v xs p

maybe_once : {A : Type 0} (t : Takes) (D : Bare → A → Type 0) (tree : A → Bare) → Law t D tree → (xs : List Bare) (v w : Option A) → Maybe D v xs → Maybe D w xs → v ≡ w
maybe_once t D tree law [] None None p q = refl
maybe_once t D tree law (x ∷ xs) None None p q = refl
maybe_once t D tree law [] None (Some w) p q = absurd q
maybe_once t D tree law (x ∷ xs) None (Some w) p q = absurd p
maybe_once t D tree law [] (Some v) None p q = absurd p
maybe_once t D tree law (x ∷ xs) (Some v) None p q = absurd q
maybe_once t D tree law xs (Some v) (Some w) p q = ap Some (one_once t D tree law xs v w p q)

maybe_spelled : {A : Type 0} (t : Takes) (D : Bare → A → Type 0) (tree : A → Bare) → Law t D tree → (v : Option A) → Maybe D v (trees.maybe tree v)
maybe_spelled t D tree law None = tt
maybe_spelled t D tree law (Some v) = law.spelled v

maybe_times : {A : Type 0} (tree : A → Bare) (v : Option A) → length (trees.maybe tree v) ≤ 1
maybe_times tree None = omega arith
maybe_times tree (Some v) = omega arith

pub maybe : {A : Type 0} {t : Takes} {D : Bare → A → Type 0} {tree : A → Bare} (n : SlotName) → Law t D tree → SlotLaw (slot n t AtMostOnce) (Maybe D) (trees.maybe tree)
maybe {A} {t} {D} {tree} n law = record {
  fits = maybe_fits t D tree law;
  once = maybe_once t D tree law;
  spelled = maybe_spelled t D tree law;
  times = maybe_times tree;
}

each_fits : {A : Type 0} (t : Takes) (D : Bare → A → Type 0) (tree : A → Bare) → Law t D tree → (vs : List A) (xs : List Bare) → Each D vs xs → AllFitting t xs
each_fits t D tree law [] [] p = tt
each_fits t D tree law [] (x ∷ xs) p = absurd p
each_fits t D tree law (v ∷ vs) [] p = absurd p
each_fits t D tree law (v ∷ vs) (x ∷ xs) p = (law.fits x v p.0, each_fits t D tree law vs xs p.1)

each_once : {A : Type 0} (t : Takes) (D : Bare → A → Type 0) (tree : A → Bare) → Law t D tree → (xs : List Bare) (vs ws : List A) → Each D vs xs → Each D ws xs → vs ≡ ws
each_once t D tree law [] [] [] p q = refl
each_once t D tree law [] [] (w ∷ ws) p q = absurd q
each_once t D tree law [] (v ∷ vs) ws p q = absurd p
each_once t D tree law (x ∷ xs) [] ws p q = absurd p
each_once t D tree law (x ∷ xs) (v ∷ vs) [] p q = absurd q
each_once t D tree law (x ∷ xs) (v ∷ vs) (w ∷ ws) p q = ap (λ z. z ∷ vs) (law.once x v w p.0 q.0) ∙ ap (λ (l : List _). w ∷ l) (each_once t D tree law xs vs ws p.1 q.1)

each_spelled : {A : Type 0} (t : Takes) (D : Bare → A → Type 0) (tree : A → Bare) → Law t D tree → (vs : List A) → Each D vs (map tree vs)
each_spelled t D tree law [] = tt
each_spelled t D tree law (v ∷ vs) = (law.spelled v, each_spelled t D tree law vs)

pub each : {A : Type 0} {t : Takes} {D : Bare → A → Type 0} {tree : A → Bare} (n : SlotName) → Law t D tree → SlotLaw (slot n t Any) (Each D) (map tree)
each {A} {t} {D} {tree} n law = record {
  fits = each_fits t D tree law;
  once = each_once t D tree law;
  spelled = each_spelled t D tree law;
  times = λ v. tt;
}

same_listed : {A : Type 0} (v w : NonEmpty A) → listed v ≡ listed w → v ≡ w
same_listed v w e =
    let first : v.first ≡ w.first = cc in
    let others : v.others ≡ w.others = cc in
    λ i. record { first = first i; others = others i }

pub some : {A : Type 0} {t : Takes} {D : Bare → A → Type 0} {tree : A → Bare} (n : SlotName) → Law t D tree → SlotLaw (slot n t AtLeastOnce) (AtLeastOne D) (λ v. map tree (listed v))
some {A} {t} {D} {tree} n law = record {
  fits = λ v xs p. each_fits t D tree law (listed v) xs p;
  once = λ xs v w p q. same_listed v w (each_once t D tree law xs (listed v) (listed w) p q);
  spelled = λ v. each_spelled t D tree law (listed v);
  times = λ v. omega arith;
}

pub record RowLaw {A : Type 0} (row : List Slot) (F : A → Fields) (run : A → List Bare) : Type 0 where
  pub fits : (v : A) (xs : List Bare) → Runs row (F v) xs → Cuts row xs
  pub once : is_clear row ≡ true → (xs : List Bare) (v w : A) → Runs row (F v) xs → Runs row (F w) xs → v ≡ w
  pub spelled : (v : A) → Runs row (F v) (run v)

pub done : RowLaw {A = Unit {0}} [] (λ u. nothing) (λ u. [])
done = record { fits = λ v xs r. r; once = λ c xs v w r q. refl; spelled = λ v. refl }

passes_of : (t : Takes) (xs : List Bare) → AllFitting t xs → AllPass (takes t) (map shape xs)
passes_of t [] f = All-nil (Passes t)
passes_of t (x ∷ xs) f = All-cons (Passes t) (shape x) (map shape xs) f.0.taken (passes_of t xs f.1)

module _ {A B : Type 0} (s : Slot) (row : List Slot) (P : A → List Bare → Type 0) (run : A → List Bare) (F : B → Fields) (others : B → List Bare) (law : SlotLaw s P run) (rest : RowLaw row F others) where
  then_once : is_clear (s ∷ row) ≡ true → (xs : List Bare) (v w : A × B) → Runs (s ∷ row) (P v.0 & F v.1) xs → Runs (s ∷ row) (P w.0 & F w.1) xs → v ≡ w
  then_once c xs v w (r, b, e, m, p, q) (r', b', e', m', p', q') =
      let z : length r ≡ length r + 0 = omega arith in
      let z' : length r' ≡ length r' + 0 = omega arith in
      let same = same_cut s row r r' b b' 0 c m.0 m'.0 (subst (λ n. Times s.often n) z m.1) (subst (λ n. Times s.often n) z' m'.1) (runs_fit row (F v.1) b q) (runs_fit row (F w.1) b' q') (sym e ∙ e') in
      let first = law.once r v.0 w.0 p (subst (λ l. P w.0 l) (sym same.run_is) p') in
      let parts = and_parts (list_all (λ x. not (not (is_required s.often && not (is_many s.often)) && (takes s.takes x && may_begin row x))) all_arguments) (is_clear row) c in
      let second = rest.once parts.1 b v.1 w.1 q (subst (λ l. Runs row (F w.1) l) (sym same.rest_is) q') in
      λ i. (first i, second i)

  pub then : RowLaw {A = A × B} (s ∷ row) (λ p. P p.0 & F p.1) (λ p. run p.0 ++ others p.1)
  then = record {
    fits = λ v xs r. (r.0, r.1, r.2, law.fits v.0 r.0 r.4, r.3.1, rest.fits v.1 r.1 r.5);
    once = then_once;
    spelled = λ v. (run v.0, others v.1, refl, (passes_of s.takes (run v.0) (law.fits v.0 (run v.0) (law.spelled v.0)), law.times v.0), law.spelled v.0, rest.spelled v.1);
  }

infixr 5 ◌>>◌
pub ◌>>◌ : {A B : Type 0} {s : Slot} {row : List Slot} {P : A → List Bare → Type 0} {run : A → List Bare} {F : B → Fields} {others : B → List Bare} → SlotLaw s P run → RowLaw row F others
    → RowLaw {A = A × B} (s ∷ row) (λ p. P p.0 & F p.1) (λ p. run p.0 ++ others p.1)
◌>>◌ {A} {B} {s} {row} {P} {run} {F} {others} law rest = then s row P run F others law rest

-- ---- nodes

node_fitting : (t : Takes) (K : Keyword) (n : Node) (k : List ℕ) (xs : Bares) → keyword_of k ≡ Some K → enters t K ≡ Some n → Fitted n xs → Fitting t (node k xs)
node_fitting t K n k xs e g f = record {
  taken = ap (λ o. takes t (argument_by o)) e ∙ ap (λ (o : Option Node). is_some o) g;
  sound = λ m h. let same : n ≡ m = same_Some n m (sym g ∙ (ap (entered t) (sym e) ∙ h)) in subst (λ q. Fitted q xs) same f;
}

args_bares : (xs : List Bare) → args (bares xs) ≡ xs
args_bares [] = refl
args_bares (x ∷ xs) = ap (λ (l : List Bare). x ∷ l) (args_bares xs)

same_items : (k k' : List ℕ) (xs ys : Bares) → node k xs ≡ node k' ys → (k ≡ k') × (xs ≡ ys)
same_items k k' xs ys e = (cc, cc)

-- the law of nodes whose value is determined by the keyword and the fields
pub node_law : {A B : Type 0} {F : B → Fields} {run : B → List Bare} (t : Takes) (K : A → Keyword) (n : Node) (to : A → B)
    → ((v : A) → enters t (K v) ≡ Some n) → ((v w : A) → K v ≡ K w → to v ≡ to w → v ≡ w) → RowLaw (row_of n) F run
    → Law t (λ x v. IsNode (K v) n (F (to v)) x) (λ v. node (spelling (K v)) (bares (run (to v))))
node_law {A} {B} {F} {run} t K n to enter same row = record {
  fits = λ x v d. subst (Fitting t) (sym d.is) (node_fitting t (K v) n d.keyword d.items d.meaning (enter v) (cuts_fitted editions.Second n d.items (row.fits (to v) (args d.items) d.runs)));
  once = λ x v w d e.
      let items = same_items d.keyword e.keyword d.items e.items (sym d.is ∙ e.is) in
      let key = same_Some (K v) (K w) (sym d.meaning ∙ (ap keyword_of items.0 ∙ e.meaning)) in
      same v w key (row.once (rows_clear editions.Second n) (args d.items) (to v) (to w) d.runs (subst (λ l. Runs (row_of n) (F (to w)) (args l)) (sym items.1) e.runs));
  spelled = λ v. record {
    keyword = spelling (K v);
    items = bares (run (to v));
    is = refl;
    meaning = keyword_spelled (K v);
    runs = subst (λ l. Runs (row_of n) (F (to v)) l) (sym (args_bares (run (to v)))) (row.spelled (to v));
  };
}

-- equal nodes have the same keyword
pub same_keyword : (k k' : List ℕ) (xs ys : Bares) (K J : Keyword) → node k xs ≡ node k' ys → keyword_of k ≡ Some K → keyword_of k' ≡ Some J → K ≡ J
same_keyword k k' xs ys K J e p q = same_Some K J (sym p ∙ (ap keyword_of (same_items k k' xs ys e).0 ∙ q))
