-- Arguments that fit a slot denote some value, and so do those that fit a row.
use Rattle.std.proofs.Common.{◌≡◌, ℕ, zero, suc, ◌≤◌, true, List, [], ◌∷◌, ◌++◌, length, Option, Some, None, refl, subst, arith}
use Rattle.crs_part.specs.declared.many.NonEmpty.{NonEmpty}
use Rattle.wkt_tree.specs.Tokens.{IsNumber}
use Rattle.wkt_grammar.specs.declared.table.Edition.TheVariants as editions
use Rattle.wkt_grammar.specs.declared.table.Slot.{Slot}
use Rattle.wkt_grammar.specs.declared.table.SlotName.{SlotName}
use Rattle.wkt_grammar.specs.declared.table.Node.{Node}
use Rattle.wkt_grammar.specs.declared.table.Keyword.{Keyword}
use Rattle.wkt_grammar.specs.declared.table.Takes.{Takes}
use Rattle.wkt_grammar.specs.declared.table.Takes.TheVariants as kinds
use Rattle.wkt_grammar.specs.declared.table.Often.TheVariants.{Once, AtMostOnce, Any, AtLeastOnce}
use Rattle.wkt_grammar.specs.Rows.{enters, Times}
use Rattle.wkt_grammar.specs.Words.{keyword_of}
use Rattle.wkt_grammar.specs.Bare.{Bare, Bares, text, number, word, node, none, and, args}
use Rattle.wkt_grammar.proofs.Fitting.{fitted_cuts, passes_of}
use Rattle.wkt_grammar.proofs.Keywords.{node_only}
use Rattle.wkt_write.specs.WellFormed.{WellFormed, AllWellFormed, SomeWellFormed, IsText}
use Rattle.wkt_grammar.specs.SecondEdition.{row_of, Fitted, Fitting, AllFitting, Cuts}
use Rattle.wkt_grammar.specs.Runs.{Fields, nothing, ◌&◌, Runs, IsNode, One, Maybe, Each, AtLeastOne}
use Rattle.wkt_grammar.proofs.NodeRows.{slot}
use Rattle.wkt_build.proofs.Rows.{takes_nodes, entered_of}

-- ---- trees in which all texts and numbers can be read

abbrev mutual
  pub IsRead : Bare → Type 0
  IsRead (text b) = IsText b
  IsRead (number b) = IsNumber b
  IsRead (word b) = Unit {0}
  IsRead (node k xs) = AllRead xs

  pub AllRead : Bares → Type 0
  AllRead none = Unit {0}
  AllRead (and x xs) = IsRead x × AllRead xs

abbrev pub EachRead : List Bare → Type 0
EachRead [] = Unit {0}
EachRead (x ∷ xs) = IsRead x × EachRead xs

each_read : (xs : Bares) → AllRead xs → EachRead (args xs)
each_read none h = tt
each_read (and x xs) h = (h.0, each_read xs h.1)

mutual
  pub good_read : (n : ℕ) (x : Bare) → WellFormed n x → IsRead x
  good_read n (text b) g = g
  good_read n (number b) g = g.readable
  good_read n (word b) g = tt
  good_read zero (node k xs) g = absurd g
  good_read (suc n) (node k xs) g = some_read n xs g.1

  some_read : (n : ℕ) (xs : Bares) → SomeWellFormed n xs → AllRead xs
  some_read n none g = absurd g
  some_read n (and x xs) g = (good_read n x g.0, all_read n xs g.1)

  all_read : (n : ℕ) (xs : Bares) → AllWellFormed n xs → AllRead xs
  all_read n none g = tt
  all_read n (and x xs) g = (good_read n x g.0, all_read n xs g.1)

front_read : (a b : List Bare) → EachRead (a ++ b) → EachRead a × EachRead b
front_read [] b h = (tt, h)
front_read (x ∷ a) b h = let r = front_read a b h.1 in ((h.0, r.0), r.1)

-- ---- arguments, slots, rows

-- an argument that fits a slot of this kind denotes some value
pub record Has {A : Type 0} (t : Takes) (D : Bare → A → Type 0) : Type 0 where
  pub of : (x : Bare) → IsRead x → Fitting t x → (v : A) × D x v

pub record SlotHas {A : Type 0} (s : Slot) (P : A → List Bare → Type 0) : Type 0 where
  pub of : (xs : List Bare) → EachRead xs → AllFitting s.takes xs → Times s.often (length xs) → (v : A) × P v xs

pub record RowHas {A : Type 0} (row : List Slot) (F : A → Fields) : Type 0 where
  pub of : (xs : List Bare) → EachRead xs → Cuts row xs → (v : A) × Runs row (F v) xs

one_has : {A : Type 0} (t : Takes) (D : Bare → A → Type 0) → Has t D → (xs : List Bare) → EachRead xs → AllFitting t xs → length xs ≡ 1 → (v : A) × One D v xs
one_has t D h [] r f l = absurd (omega (arith, l))
one_has t D h (x ∷ []) r f l = h.of x r.0 f.0
one_has t D h (x ∷ y ∷ xs) r f l = absurd (omega (arith, l))

pub one : {A : Type 0} {t : Takes} {D : Bare → A → Type 0} (n : SlotName) → Has t D → SlotHas (slot n t Once) (One D)
one {A} {t} {D} n h = record { of = one_has t D h }

maybe_has : {A : Type 0} (t : Takes) (D : Bare → A → Type 0) → Has t D → (xs : List Bare) → EachRead xs → AllFitting t xs → length xs ≤ 1 → (v : Option A) × Maybe D v xs
maybe_has t D h [] r f l = (None, tt)
maybe_has t D h (x ∷ []) r f l = let v = h.of x r.0 f.0 in (Some v.0, v.1)
maybe_has t D h (x ∷ y ∷ xs) r f l = absurd (omega (arith, l))

pub maybe : {A : Type 0} {t : Takes} {D : Bare → A → Type 0} (n : SlotName) → Has t D → SlotHas (slot n t AtMostOnce) (Maybe D)
maybe {A} {t} {D} n h = record { of = maybe_has t D h }

each_has : {A : Type 0} (t : Takes) (D : Bare → A → Type 0) → Has t D → (xs : List Bare) → EachRead xs → AllFitting t xs → (vs : List A) × Each D vs xs
each_has t D h [] r f = ([], tt)
each_has t D h (x ∷ xs) r f = let v = h.of x r.0 f.0 in let vs = each_has t D h xs r.1 f.1 in (v.0 ∷ vs.0, (v.1, vs.1))

pub each : {A : Type 0} {t : Takes} {D : Bare → A → Type 0} (n : SlotName) → Has t D → SlotHas (slot n t Any) (Each D)
each {A} {t} {D} n h = record { of = λ xs r f l. each_has t D h xs r f }

some_has : {A : Type 0} (t : Takes) (D : Bare → A → Type 0) → Has t D → (xs : List Bare) → EachRead xs → AllFitting t xs → 1 ≤ length xs → (v : NonEmpty A) × AtLeastOne D v xs
some_has t D h [] r f l = absurd (omega (arith, l))
some_has t D h (x ∷ xs) r f l = let v = h.of x r.0 f.0 in let vs = each_has t D h xs r.1 f.1 in (record { first = v.0; others = vs.0 }, (v.1, vs.1))

pub some : {A : Type 0} {t : Takes} {D : Bare → A → Type 0} (n : SlotName) → Has t D → SlotHas (slot n t AtLeastOnce) (AtLeastOne D)
some {A} {t} {D} n h = record { of = some_has t D h }

pub done : RowHas {A = Unit {0}} [] (λ u. nothing)
done = record { of = λ xs r c. (tt, c) }

then_has : {A B : Type 0} (s : Slot) (row : List Slot) (P : A → List Bare → Type 0) (F : B → Fields) → SlotHas s P → RowHas row F → (xs : List Bare) → EachRead xs → Cuts (s ∷ row) xs → (v : A × B) × Runs (s ∷ row) (P v.0 & F v.1) xs
then_has s row P F h g xs r (run, rest, e, f, l, c) =
    let parts = front_read run rest (subst EachRead e r) in
    let v = h.of run parts.0 f l in
    let w = g.of rest parts.1 c in
    ((v.0, w.0), (run, rest, e, (passes_of editions.Second s.takes run f, l), v.1, w.1))

infixr 5 ◌>>◌
pub ◌>>◌ : {A B : Type 0} {s : Slot} {row : List Slot} {P : A → List Bare → Type 0} {F : B → Fields} → SlotHas s P → RowHas row F → RowHas {A = A × B} (s ∷ row) (λ p. P p.0 & F p.1)
◌>>◌ {A} {B} {s} {row} {P} {F} h g = record { of = then_has s row P F h g }

-- ---- nodes

-- a node of this keyword whose arguments fit this row
pub record Entered (K : Keyword) (n : Node) (x : Bare) : Type 0 where
  pub keyword : List ℕ
  pub items : Bares
  pub is : x ≡ node keyword items
  pub meaning : keyword_of keyword ≡ Some K
  pub fitted : Fitted n items
  pub read : EachRead (args items)

read_items : (x : Bare) (k : List ℕ) (items : Bares) → x ≡ node k items → IsRead x → EachRead (args items)
read_items x k items e r = each_read items (subst IsRead e r)

-- the node has the fields of some value
pub node_has : {B : Type 0} {F : B → Fields} (n : Node) → RowHas (row_of n) F → (K : Keyword) (m : Node) → m ≡ n → (x : Bare) → Entered K m x → (v : B) × IsNode K n (F v) x
node_has {B} {F} n row K m same x e =
    let v = row.of (args e.items) e.read (fitted_cuts editions.Second n e.items (subst (λ r. Fitted r e.items) same e.fitted)) in
    (v.0, record { keyword = e.keyword; items = e.items; is = e.is; meaning = e.meaning; runs = v.1 })

-- if each keyword that a slot for nodes takes gives a value, each argument that fits the slot denotes one
pub by_keyword : {A : Type 0} {D : Bare → A → Type 0} (t : Takes) → takes_nodes t ≡ true → ((K : Keyword) (m : Node) → enters t K ≡ Some m → (x : Bare) → Entered K m x → (v : A) × D x v) → Has t D
by_keyword {A} {D} t nodes choose = record {
  of = λ x r f.
      let e = entered_of t nodes x f in
      choose e.means e.row e.enters x (record { keyword = e.keyword; items = e.items; is = e.is; meaning = e.meaning; fitted = e.fitted; read = read_items x e.keyword e.items e.is r });
}

-- the same, for a slot that takes only one keyword
pub alone : {A B : Type 0} {F : B → Fields} {D : Bare → A → Type 0} (K : Keyword) (n : Node) → RowHas (row_of n) F → (make : B → A) → ((x : Bare) (v : B) → IsNode K n (F v) x → D x (make v)) → Has (kinds.Node K n) D
alone {A} {B} {F} {D} K n row make is = by_keyword (kinds.Node K n) refl choose
  where
    choose : (J : Keyword) (m : Node) → enters (kinds.Node K n) J ≡ Some m → (x : Bare) → Entered J m x → (v : A) × D x v
    choose J m e x h =
        let o = node_only K n J m e in
        let v = node_has n row J m o.1 x h in
        (make v.0, is x v.0 (subst (λ k. IsNode k n (F v.0) x) o.0 v.1))
