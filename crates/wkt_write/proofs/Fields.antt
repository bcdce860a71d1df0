-- Arguments that are alike denote the same fields.
use Rattle.std.proofs.Common.{◌≡◌, ℕ, List, [], ◌∷◌, ◌++◌, length, map, Option, Some, None, true, refl, sym, ap, ◌∙◌, subst, arith}
use Rattle.std.specs.Cmp.{both_ways}
use Rattle.std.specs.List.{AllPass}
use Rattle.crs_number.specs.Numeral.{Spells}
use Rattle.crs_number.specs.Count.{is_count, SpellsWhole}
use Rattle.crs_number.proofs.Once.{spells_once}
use Rattle.crs_number.proofs.CountLemmas.{count_from, count_to}
use Rattle.crs_number.specs.declared.decimals.Decimal.{Decimal}
use Rattle.crs_part.specs.declared.many.NonEmpty.{NonEmpty}
use Rattle.wkt_grammar.specs.declared.table.Argument.{Argument}
use Rattle.wkt_grammar.specs.declared.table.Slot.{Slot}
use Rattle.wkt_grammar.specs.declared.table.Node.{Node}
use Rattle.wkt_grammar.specs.declared.table.Keyword.{Keyword}
use Rattle.wkt_grammar.specs.declared.table.Edition.TheVariants as editions
use Rattle.wkt_grammar.specs.Rows.{takes, Times, row_of}
use Rattle.wkt_grammar.specs.Bare.{Bare, Bares, text, number, word, node, none, and, args, shape}
use Rattle.wkt_grammar.specs.Runs.{Fields, nothing, ◌&◌, Meets, Runs, IsNode, One, Maybe, Each, AtLeastOne, listed}
use Rattle.wkt_grammar.specs.Leaves.{DenotesText, DenotesNumber, DenotesCount, DenotesWord}
use Rattle.wkt_write.specs.Alike.{SameNumber, Alike, AllAlike}

-- trees that are alike denote the same value
abbrev pub Moves : {A : Type 0} → (Bare → A → Type 0) → Type 0
Moves {A} D = (x y : Bare) (v : A) → Alike x y → D x v → D y v

abbrev pub ListAlike : List Bare → List Bare → Type 0
ListAlike [] ys = ys ≡ []
ListAlike (x ∷ xs) ys = (z : Bare) × (zs : List Bare) × (ys ≡ z ∷ zs) × Alike x z × ListAlike xs zs

abbrev pub RunMoves : (List Bare → Type 0) → Type 0
RunMoves P = (xs ys : List Bare) → ListAlike xs ys → P xs → P ys

abbrev pub FieldsMove : Fields → Type 0
FieldsMove nothing = Unit {0}
FieldsMove (P & fields) = RunMoves P × FieldsMove fields

-- ---- numerals

spells_again : (a b : List ℕ) → SameNumber a b → (d : Decimal) → Spells a d.coefficient d.exponent → Spells b d.coefficient d.exponent
spells_again a b s d h =
    let e = spells_once a s.decimal.coefficient d.coefficient s.decimal.exponent d.exponent s.one h in
    subst (λ c. Spells b c d.exponent) e.0 (subst (λ x. Spells b s.decimal.coefficient x) e.1 s.another)

pub whole_again : (a b : List ℕ) (n : ℕ) → SameNumber a b → SpellsWhole a n → SpellsWhole b n
whole_again a b n s w =
    let e = spells_once a s.decimal.coefficient w.coefficient s.decimal.exponent w.exponent s.one w.spells in
    record {
      coefficient = w.coefficient;
      exponent = w.exponent;
      spells = subst (λ c. Spells b c w.exponent) e.0 (subst (λ x. Spells b s.decimal.coefficient x) e.1 s.another);
      whole = w.whole;
    }

turned : (a b : List ℕ) → SameNumber a b → SameNumber b a
turned a b s = record { decimal = s.decimal; one = s.another; another = s.one }

count_on : (a b : List ℕ) → SameNumber a b → is_count a ≡ true → is_count b ≡ true
count_on a b s h =
    let c = count_from a h in
    count_to b (record { count = c.count; spelled = whole_again a b c.count s c.spelled; small = c.small })

shape_same : (x y : Bare) → Alike x y → shape y ≡ shape x
shape_same (text a) y h = ap shape h
shape_same (word a) y h = ap shape h
shape_same (number a) y h =
    let t : is_count h.0 ≡ is_count a = both_ways (is_count h.0) (is_count a) (count_on h.0 a (turned a h.0 h.2)) (count_on a h.0 h.2) in
    ap shape h.1 ∙ rw (t) refl
shape_same (node k xs) y h = ap shape h.1

-- ---- runs

list_alike : (xs ys : Bares) → AllAlike xs ys → ListAlike (args xs) (args ys)
list_alike none ys h = ap args h
list_alike (and x xs) ys h = (h.0, args h.1, ap args h.2, h.3, list_alike xs h.1 h.4)

shapes_same : (xs ys : List Bare) → ListAlike xs ys → map shape ys ≡ map shape xs
shapes_same [] ys h = ap (map shape) h
shapes_same (x ∷ xs) ys h =
    ap (map shape) h.2
    ∙ (ap (λ (s : Argument). s ∷ map shape h.1) (shape_same x h.0 h.3)
    ∙ ap (λ (l : List Argument). shape x ∷ l) (shapes_same xs h.1 h.4))

lengths_same : (xs ys : List Bare) → ListAlike xs ys → length ys ≡ length xs
lengths_same [] ys h = ap length h
lengths_same (x ∷ xs) ys h = let i = lengths_same xs h.1 h.4 in ap length h.2 ∙ omega (arith, i)

pub record Split (xs rest ys : List Bare) : Type 0 where
  pub front : List Bare
  pub back : List Bare
  pub whole : ys ≡ front ++ back
  pub fronts : ListAlike xs front
  pub backs : ListAlike rest back

split : (xs rest ys : List Bare) → ListAlike (xs ++ rest) ys → Split xs rest ys
split [] rest ys h = record { front = []; back = ys; whole = refl; fronts = refl; backs = h }
split (x ∷ xs) rest ys h =
    let s = split xs rest h.1 h.4 in
    record {
      front = h.0 ∷ s.front;
      back = s.back;
      whole = h.2 ∙ ap (λ (l : List Bare). h.0 ∷ l) s.whole;
      fronts = (h.0, s.front, refl, h.3, s.fronts);
      backs = s.backs;
    }

meets_move : (s : Slot) (xs ys : List Bare) → ListAlike xs ys → Meets s xs → Meets s ys
meets_move s xs ys a m = (
  subst (λ (l : List Argument). AllPass (takes s.takes) l) (sym (shapes_same xs ys a)) m.0,
  subst (λ n. Times s.often n) (sym (lengths_same xs ys a)) m.1,
)

runs_move : (row : List Slot) (fields : Fields) → FieldsMove fields → (xs ys : List Bare) → ListAlike xs ys → Runs row fields xs → Runs row fields ys
runs_move [] nothing f xs ys a r = subst (λ (l : List Bare). ListAlike l ys) r a
runs_move [] (P & fields) f xs ys a r = absurd r
runs_move (s ∷ row) nothing f xs ys a r = absurd r
runs_move (s ∷ row) (P & fields) f xs ys a r =
    let p = split r.0 r.1 ys (subst (λ (l : List Bare). ListAlike l ys) r.2 a) in (
      p.front,
      p.back,
      p.whole,
      meets_move s r.0 p.front p.fronts r.3,
      f.0 r.0 p.front p.fronts r.4,
      runs_move row fields f.1 r.1 p.back p.backs r.5,
    )

pub node_moves : (means : Keyword) (row : Node) (fields : Fields) (x y : Bare) → FieldsMove fields → Alike x y → IsNode means row fields x → IsNode means row fields y
node_moves means row fields x y f a n =
    let b : Alike (node n.keyword n.items) y = subst (λ z. Alike z y) n.is a in
    record {
      keyword = n.keyword;
      items = b.0;
      is = b.1;
      meaning = n.meaning;
      runs = runs_move (row_of editions.Second row) fields f (args n.items) (args b.0) (list_alike n.items b.0 b.2) n.runs;
    }

-- ---- slots that take one argument, at most one, and any number

pub one : {A : Type 0} (D : Bare → A → Type 0) → Moves D → (v : A) → RunMoves (One D v)
one D m v [] ys a h = absurd h
one D m v (x ∷ []) ys a h =
    let e : ys ≡ a.0 ∷ [] = a.2 ∙ ap (λ (l : List Bare). a.0 ∷ l) a.4 in
    subst (λ (l : List Bare). One D v l) (sym e) (m x a.0 v a.3 h)
one D m v (x ∷ z ∷ xs) ys a h = absurd h

pub maybe : {A : Type 0} (D : Bare → A → Type 0) → Moves D → (v : Option A) → RunMoves (Maybe D v)
maybe D m None [] ys a h = subst (λ (l : List Bare). Maybe D None l) (sym a) tt
maybe D m None (x ∷ xs) ys a h = absurd h
maybe D m (Some v) xs ys a h = one D m v xs ys a h

pub each : {A : Type 0} (D : Bare → A → Type 0) → Moves D → (vs : List A) → RunMoves (Each D vs)
each D m [] [] ys a h = subst (λ (l : List Bare). Each D [] l) (sym a) tt
each D m [] (x ∷ xs) ys a h = absurd h
each D m (v ∷ vs) [] ys a h = absurd h
each D m (v ∷ vs) (x ∷ xs) ys a h = subst (λ (l : List Bare). Each D (v ∷ vs) l) (sym a.2) (m x a.0 v a.3 h.0, each D m vs xs a.1 a.4 h.1)

pub some : {A : Type 0} (D : Bare → A → Type 0) → Moves D → (v : NonEmpty A) → RunMoves (AtLeastOne D v)
some D m v xs ys a h = each D m (listed v) xs ys a h

-- ---- leaves

pub text_moves : Moves DenotesText
text_moves x y v a d = subst (λ z. Alike z y) d a

pub number_moves : Moves DenotesNumber
number_moves x y v a d =
    let b : Alike (number d.bytes) y = subst (λ z. Alike z y) d.is a in
    record { bytes = b.0; is = b.1; spells = spells_again d.bytes b.0 b.2 v d.spells }

pub count_moves : Moves DenotesCount
count_moves x y v a d =
    let b : Alike (number d.bytes) y = subst (λ z. Alike z y) d.is a in
    record { bytes = b.0; is = b.1; spells = whole_again d.bytes b.0 v b.2 d.spells; small = d.small }

pub word_moves : {A : Type 0} (spelling : A → List ℕ) → Moves (DenotesWord spelling)
word_moves spelling x y v a d =
    let b : y ≡ word d.bytes = subst (λ z. Alike z y) d.is a in
    record { bytes = d.bytes; is = b; spells = d.spells }
