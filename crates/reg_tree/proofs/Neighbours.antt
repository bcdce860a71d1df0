-- In a list of operations that is sorted by id, all operations agree if neighbours do.
use Rattle.std.proofs.Common.{◌≡◌, ℕ, zero, suc, ◌+◌, ◌-◌, ◌<◌, ◌≤◌, Bool, true, false, not, ◌&&◌, inl, inr, List, [], ◌∷◌, length, get_or, refl, sym, ap, ◌∙◌, subst, arith}
use Rattle.std.specs.Prelude.{Contains, Result, Ok, Err, IfOk}
use Rattle.std.specs.Bool.{OnTrue}
use Rattle.std.specs.Borrow.{Bor}
use Rattle.std.specs.Ordering.{is_eq, is_lt, eq_by_cmp}
use Rattle.std.specs.Cmp.{Equal-is, tied_itself}
use Rattle.std.proofs.lemmas.Bool.{true≢false, or_cases}
use Rattle.std.proofs.lemmas.List.{get_or_default}
use Rattle.std.proofs.lemmas.List.Elements.{Contains-append_left, Contains-append_right}
use Rattle.std.specs.List.Sorted.{IsPermutation}
use Rattle.std.proofs.lemmas.List.Sorted.{sorted_far, ranks_by, Contains-permutation, IsPermutation-map}
use Rattle.std.proofs.lemmas.Map.Views.{Contains-from_any}
use Rattle.reg_op.specs.Set as set
use Rattle.reg_op.specs.Ids.{Id, id_cmp, is_before, is_same}
use Rattle.reg_op.specs.Operations.{Op, Ops, op_cmp, clashes, OneBody}
use Rattle.reg_op.specs.Contents.{Content}
use Rattle.reg_op.proofs.OpLemmas.{id_total, op_exact}
use Rattle.reg_op.proofs.ClashLemmas.{same_id}
use Rattle.reg_op.proofs.ContentLemmas.{contains_op-union}
use Rattle.reg_op.proofs.PointLemmas.{lt_or_ge}
use Rattle.reg_state.specs.ManyLaws.{all_ops}
use Rattle.reg_tree.specs.Listed.{IsById, OneEach, ops_at, ops_in}

-- ---- neighbours

not_clashing : (s e : Bool) → (s && not e) ≡ false → s ≡ true → e ≡ true
not_clashing true true h same = refl
not_clashing true false h same = absurd (true≢false h)
not_clashing false e h same = absurd (true≢false (sym same))

-- two operations with the same id that do not clash are equal
pub agreed : (p o : Op) → clashes p o ≡ false → p.id ≡ o.id → p ≡ o
agreed p o h e =
    let same : is_same p.id o.id ≡ true = subst (λ (i : Id). is_same p.id i ≡ true) e (ap is_eq (tied_itself id_total p.id)) in
    op_exact p o ((Equal-is (op_cmp p o)).0 (not_clashing (is_same p.id o.id) (is_eq (op_cmp p o)) h same))

-- no two neighbours among the first n elements clash
abbrev pub NeighboursAgree : List (Bor Op) → ℕ → Type 0
NeighboursAgree os n = (k : ℕ) (d : Bor Op) → k + 1 < n → clashes (get_or os k d).now (get_or os (k + 1) d).now ≡ false

module _ (os : List (Bor Op)) (up : IsById os) (agree : NeighboursAgree os (length os)) where
  far : (i j : ℕ) (d : Bor Op) → i ≤ j → j < length os → is_before (get_or os j d).now.id (get_or os i d).now.id ≡ false
  far i j d a b = sorted_far (λ (x y : Bor Op). is_lt (id_cmp x.now.id y.now.id)) (ranks_by id_total (λ (o : Bor Op). o.now.id)) os up i j d a b

  from : (i n : ℕ) (d : Bor Op) → i + n < length os → (get_or os i d).now.id ≡ (get_or os (i + n) d).now.id → (get_or os i d).now ≡ (get_or os (i + n) d).now
  from i zero d h e = let same : i ≡ i + zero = omega arith in ap (λ k. (get_or os k d).now) same
  from i (suc n) d h e =
      let m = i + n in
      let next : i + suc n ≡ m + 1 = omega arith in
      let last : (get_or os i d).now.id ≡ (get_or os (m + 1) d).now.id = e ∙ ap (λ k. (get_or os k d).now.id) next in
      let low : is_before (get_or os m d).now.id (get_or os i d).now.id ≡ false = far i m d (omega arith) (omega arith) in
      let high : is_before (get_or os (m + 1) d).now.id (get_or os m d).now.id ≡ false = far m (m + 1) d (omega arith) (omega arith) in
      let same : (get_or os i d).now.id ≡ (get_or os m d).now.id =
      same_id (get_or os i d).now.id (get_or os m d).now.id (subst (λ (x : Id). is_before x (get_or os m d).now.id ≡ false) (sym last) high) low in
      from i n d (omega arith) same
      ∙ agreed (get_or os m d).now (get_or os (m + 1) d).now (agree m d (omega arith)) (sym same ∙ last)
      ∙ ap (λ k. (get_or os k d).now) (sym next)

  ordered_by : (i n j : ℕ) (d : Bor Op) → i + n ≡ j → j < length os → (get_or os i d).now.id ≡ (get_or os j d).now.id → (get_or os i d).now ≡ (get_or os j d).now
  ordered_by i n j d is b e = from i n d (omega arith) (e ∙ ap (λ k. (get_or os k d).now.id) (sym is)) ∙ ap (λ k. (get_or os k d).now) is

  ordered : (i j : ℕ) (d : Bor Op) → i ≤ j → j < length os → (get_or os i d).now.id ≡ (get_or os j d).now.id → (get_or os i d).now ≡ (get_or os j d).now
  ordered i j d a b e = ordered_by i (j - i) j d (omega arith) b e

  any_two : (x y : Bor Op) → Contains os x → Contains os y → x.now.id ≡ y.now.id → x.now ≡ y.now
  any_two x y (i, a, e) (j, b, f) same =
      let f_at : get_or os j x ≡ y = get_or_default os j x y b ∙ f in
      let ids : (get_or os i x).now.id ≡ (get_or os j x).now.id = ap (λ (o : Bor Op). o.now.id) e ∙ same ∙ ap (λ (o : Bor Op). o.now.id) (sym f_at) in
      let ops : (get_or os i x).now ≡ (get_or os j x).now = elim (lt_or_ge i j) [
        | inl before ↦ ordered i j x (omega arith) b ids
        | inr after ↦ sym (ordered j i x after a (sym ids))
      ] in
      sym (ap (λ (o : Bor Op). o.now) e) ∙ ops ∙ ap (λ (o : Bor Op). o.now) f_at

pub next_agrees : (os : List (Bor Op)) (i : ℕ) (x y : Bor Op) → 1 ≤ i → i < length os → x ≡ get_or os (i - 1) x → y ≡ get_or os i y → clashes x.now y.now ≡ false
    → NeighboursAgree os i → NeighboursAgree os (i + 1)
next_agrees os i x y low high e f apart agree k d h = elim (lt_or_ge (k + 1) i) [
  | inl before ↦ agree k d before
  | inr here ↦
      let first : k ≡ i - 1 = omega arith in
      let second : k + 1 ≡ i = omega arith in
      let x_is : x ≡ get_or os k d = e ∙ get_or_default os (i - 1) x d (omega arith) ∙ ap (λ n. get_or os n d) (sym first) in
      let y_is : y ≡ get_or os (k + 1) d = f ∙ get_or_default os i y d high ∙ ap (λ n. get_or os n d) (sym second) in
      subst (λ (q : Bor Op). clashes (get_or os k d).now q.now ≡ false) y_is (subst (λ (q : Bor Op). clashes q.now y.now ≡ false) x_is apart)
]

pub all_neighbours : (os : List (Bor Op)) (i : ℕ) → length os ≤ i → NeighboursAgree os i → NeighboursAgree os (length os)
all_neighbours os i long agree k d h = agree k d (omega arith)

-- if no id has two operations in a list, none has in a permutation of it
pub one_each_of : (os ps : List (Bor Op)) → IsPermutation os ps → OneEach (ops_at ps) → OneEach (ops_at os)
one_each_of os ps moved each p o h k e =
    let same = IsPermutation-map (λ (q : Bor Op). q.now) os ps moved in
    each p o (Contains-permutation (ops_at os) (ops_at ps) p same h) (Contains-permutation (ops_at os) (ops_at ps) o same k) e

-- an element of the mapped list is the image of an element of the list
from_map : (os : List (Bor Op)) (o : Op) → Contains (ops_at os) o → (x : Bor Op) × Contains os x × (x.now ≡ o)
from_map [] o h = absurd (omega (arith, h.1))
from_map (x ∷ os) o (zero, a, e) = (x, (0, omega arith, refl), e)
from_map (x ∷ os) o (suc k, a, e) = let r = from_map os o (k, omega arith, e) in (r.0, (suc (r.1).0, omega (arith, (r.1).1), (r.1).2), r.2)

pub one_each : (os : List (Bor Op)) → IsById os → NeighboursAgree os (length os) → OneEach (ops_at os)
one_each os up agree p o h k e =
    let x = from_map os p h in
    let y = from_map os o k in
    sym x.2 ∙ any_two os up agree x.0 y.0 x.1 y.1 (ap (λ (q : Op). q.id) x.2 ∙ e ∙ ap (λ (q : Op). q.id) (sym y.2)) ∙ y.2

-- ---- the operations of contents

in_items : (s : Ops) (o : Op) → set.contains s o ≡ true → Contains (set.items s) o
in_items s o h = Contains-from_any {eq = eq_by_cmp op_cmp} (λ x y e. op_exact x y ((Equal-is (op_cmp x y)).0 e)) o (set.items s) (sym (set.contains-items s o) ∙ h)

in_ops : (xs : List Content) (o : Op) → set.contains (all_ops xs) o ≡ true → Contains (ops_in xs) o
in_ops [] o h = absurd (true≢false (sym h ∙ set.contains-empty op_cmp o))
in_ops (x ∷ xs) o h = elim (or_cases (set.contains x.ops o) (set.contains (all_ops xs) o) (sym (contains_op-union x.ops (all_ops xs) o) ∙ h)) [
  | inl here ↦ Contains-append_left (set.items x.ops) (ops_in xs) o (in_items x.ops o here)
  | inr later ↦ Contains-append_right (set.items x.ops) (ops_in xs) o (in_ops xs o later)
]

pub one_body : (xs : List Content) → OneEach (ops_in xs) → OneBody (all_ops xs)
one_body xs each p o h k e = each p o (in_ops xs p h) (in_ops xs o k) e

-- ---- the result of the check

pub more_true : (t : Bool) {P Q : Type 0} → (P → Q) → OnTrue t P → OnTrue t Q
more_true true f h = f h
more_true false f h = tt

pub if_agreed : {E : Type 0} (r : Result Bool E) (os : List (Bor Op)) (xs : List Content) → ops_at os ≡ ops_in xs
    → IfOk r (λ b. OnTrue b (OneEach (ops_at os))) → IfOk r (λ b. OnTrue b (OneBody (all_ops xs)))
if_agreed (Ok b) os xs e h = more_true b (λ each. one_body xs (subst OneEach e each)) h
if_agreed (Err x) os xs e h = tt
