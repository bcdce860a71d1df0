-- What a list of operations by id has of some offices, and what a join with it gains.
use Rattle.std.proofs.Common.{◌≡◌, ◌⊎◌, ℕ, length, get_or, arith, true, false, ◌&&◌, ◌||◌, List, ◌++◌, map, take, drop, None, Result, Ok, Err, sym, ap, ◌∙◌, subst, inl, inr}
use Rattle.std.proofs.lemmas.Bool.{or_cases, and_parts, and_from, false_from_ne_true}
use Rattle.reg_op.proofs.PointLemmas.{lt_or_ge}
use Rattle.std.proofs.lemmas.Cmp.{nat_list_cmp_total}
use Rattle.std.proofs.lemmas.List.Sorted.{searchable_from_sorted, list_any-IsPermutation}
use Rattle.std.proofs.lemmas.List.{take-append-drop, map-append}
use Rattle.std.proofs.lemmas.List.Folds.{list_any-append, list_any_at, list_any_none}
use Rattle.std.specs.Prelude.{IfOk, is_ok}
use Rattle.std.specs.List.{filter}
use Rattle.std.specs.List.Sorted.{IsSorted, IsPermutation, IsBinarySearchResult, IsSearchInRange}
use Rattle.std.specs.Cmp.{Equal-is, tied_itself}
use Rattle.std.specs.declared.cmp.Ordering.{Ordering}
use Rattle.std.specs.declared.cmp.Ordering.TheVariants.{Less, Equal, Greater}
use Rattle.std.specs.Ordering.{eq_by_cmp, is_eq}
use Rattle.reg_op.specs.Set as set
use Rattle.reg_op.specs.Set.{contains, union, contains-from_list, contains-retain, contains-union, same_set}
use Rattle.reg_op.specs.Ids.{Id, Ids, id_cmp, is_same}
use Rattle.reg_op.specs.Operations.{Op, Ops, op_cmp, ids}
use Rattle.reg_op.specs.Contents.{Content, IsContent, state, merged}
use Rattle.reg_op.specs.Kept.{first_dropped}
use Rattle.reg_op.specs.Lists.{ById, has, content_at}
use Rattle.reg_state.specs.Runs.{replica_cmp}
use Rattle.reg_op.proofs.OpLemmas.{bytes_exact, op_total, op_exact, id_total, id_exact, is_same_exact}
use Rattle.reg_op.proofs.SetLemmas.{items-retain}
use Rattle.reg_op.proofs.FiniteLemmas.{member_from_any}
use Rattle.reg_op.proofs.ClashLemmas.{items_are}
use Rattle.reg_op.proofs.ContentLemmas.{contains-ids, contains_op-union, ids_has, kept_is_within, same_content, state_is_content, OneBody-within}
use Rattle.reg_op.proofs.PieceLemmas.{kept_part}
use Rattle.reg_op.proofs.DroppedLemmas.{dropped_none}
use Rattle.reg_state.proofs.MergeLemmas.{ById-filter}
use Rattle.reg_tree.specs.Offices.{is_of, is_theirs, listed, theirs, from_offices}

-- ---- offices in order

-- a binary search finds an office exactly if some office of the list is it
pub theirs_found : (us : List (List ℕ)) (u : List ℕ) (i : Id) (r : Result ℕ ℕ) → i.replica ≡ u → IsSorted replica_cmp us → IsSearchInRange r (length us) → IsBinarySearchResult (λ y. replica_cmp y u) us r → is_ok r ≡ is_theirs us i
theirs_found us u i (Ok at) e up bound found =
    let here : get_or us at u ≡ u = bytes_exact _ u (found u) in
    sym (list_any_at (is_of i) us at u bound (ap is_eq ((λ j. replica_cmp (e j) (here j)) ∙ tied_itself nat_list_cmp_total u)))
theirs_found us u i (Err p) e up bound point =
    let parts = point (searchable_from_sorted nat_list_cmp_total (λ (y : List ℕ). y) us u up) in
    sym (list_any_none (is_of i) us (λ k d lt. elim (lt_or_ge k p) [
      | inl below ↦ other (get_or us k d) Less (parts.0 k d (omega arith) below) (λ h. cc)
      | inr above ↦ other (get_or us k d) Greater (parts.1 k d above lt) (λ h. cc)
    ]))
  where
    other : (v : List ℕ) (o : Ordering) → replica_cmp v u ≡ o → (o ≡ Equal → ⊥) → is_of i v ≡ false
    other v o is differs = false_from_ne_true (is_of i v) (λ h. differs (sym is ∙ ap (λ t. replica_cmp t u) (sym (bytes_exact i.replica v ((Equal-is (replica_cmp i.replica v)).0 h)) ∙ e) ∙ tied_itself nat_list_cmp_total u))

-- the order of the offices does not matter
pub listed_same : (us vs : List (List ℕ)) (os : List Op) → IsPermutation us vs → listed vs os ≡ listed us os
listed_same us vs os p = λ j. filter (λ o. sym (list_any-IsPermutation (is_of o.id) us vs p) j) os

-- ---- lists and their halves

items_back : (s : Ops) → set.from_list {R = op_cmp} (set.items s) ≡ s
items_back s = same_set op_total op_exact _ _ (λ q. contains-from_list op_total (set.items s) q ∙ sym (set.contains-items s q))

-- the ids of a list are those of its halves
ids_append : (xs ys : List Id) → set.from_list {R = id_cmp} (xs ++ ys) ≡ union (set.from_list xs) (set.from_list ys)
ids_append xs ys = same_set id_total id_exact _ _ (λ i.
    contains-from_list id_total (xs ++ ys) i
    ∙ list_any-append (eq_by_cmp id_cmp i) xs ys
    ∙ sym (contains-union id_total (set.from_list xs) (set.from_list ys) i ∙ (λ k. contains-from_list id_total xs i k || contains-from_list id_total ys i k)))

abbrev ids_in : List Op → List Id
ids_in os = map (λ (o : Op). o.id) os

pub ids_halves : {E : Type 0} (n : ℕ) (os l r : List Op) (a b : Ids) (q : Result Ids E) → l ≡ take n os → r ≡ drop n os → a ≡ set.from_list (ids_in l) → b ≡ set.from_list (ids_in r)
    → IfOk q (λ s. s ≡ union a b) → IfOk q (λ s. s ≡ set.from_list (ids_in os))
ids_halves n os l r a b (Ok s) front back e f is =
    is
    ∙ (λ k. union (e k) (f k))
    ∙ (λ k. union (set.from_list {R = id_cmp} (ids_in (front k))) (set.from_list {R = id_cmp} (ids_in (back k))))
    ∙ sym (ids_append (ids_in (take n os)) (ids_in (drop n os)))
    ∙ ap (λ (xs : List Id). set.from_list {R = id_cmp} xs) (sym (map-append (λ (o : Op). o.id) (take n os) (drop n os)) ∙ ap ids_in (take-append-drop n os))
ids_halves n os l r a b (Err f) front back e g is = tt

module _ (us : List (List ℕ)) (os : List Op) (up : ById os) where
  abbrev part : Ops
  part = theirs us (set.from_list {R = op_cmp} os)

  items_part : set.items part ≡ listed us os
  items_part = items-retain op_cmp op_total op_exact (set.from_list os) (λ (o : Op). is_theirs us o.id) ∙ ap (listed us) (items_are os up)

  module _ (out : List Op) (e : out ≡ listed us os) where
    pub made_by_id : ById out
    made_by_id = subst ById (sym e) (ById-filter (λ (o : Op). is_theirs us o.id) os up)

    set_of_made : set.from_list {R = op_cmp} out ≡ part
    set_of_made = ap (λ (l : List Op). set.from_list {R = op_cmp} l) (e ∙ sym items_part) ∙ items_back part

    module _ (seen : Ids) (f : seen ≡ set.from_list (map (λ (o : Op). o.id) out)) where
      seen_is : seen ≡ ids part
      seen_is = f ∙ ap (λ (l : List Op). set.from_list {R = id_cmp} (map (λ (o : Op). o.id) l)) (e ∙ sym items_part)

      pub made_seen : (o : Op) → has out o ≡ true → contains seen o.id ≡ true
      made_seen o h =
          subst (λ (v : Ids). contains v o.id ≡ true) (sym seen_is)
          (ids_has part o (subst (λ (s : Ops). contains s o ≡ true) set_of_made (contains-from_list op_total out o ∙ h)))

      pub made_is : (r : Content) → r ≡ content_at out seen → first_dropped (set.from_list {R = op_cmp} out) ≡ None → r ≡ state part
      made_is r is none =
          is ∙ same_content _ _ (set_of_made ∙ sym ((dropped_none part).0 (ap first_dropped (sym set_of_made) ∙ none))) seen_is

-- the operations of a content as a list
listed_is : (us : List (List ℕ)) (s : Ops) (os : List Op) (r : Content) → os ≡ set.items s → r ≡ state (theirs us (set.from_list {R = op_cmp} os)) → r ≡ state (theirs us s)
listed_is us s os r e is = is ∙ ap (λ (t : Ops). state (theirs us t)) (ap (λ (l : List Op). set.from_list {R = op_cmp} l) e ∙ items_back s)

pub all_listed : {E : Type 0} (us : List (List ℕ)) (s : Ops) (os : List Op) (r : Result Content E) → os ≡ set.items s → IfOk r (λ x. x ≡ state (theirs us (set.from_list {R = op_cmp} os))) → IfOk r (λ x. x ≡ state (theirs us s))
all_listed us s os (Ok x) e is = listed_is us s os x e is
all_listed us s os (Err f) e is = tt

-- ---- what is joined

contains-theirs : (us : List (List ℕ)) (s : Ops) (o : Op) → contains (theirs us s) o ≡ (contains s o && is_theirs us o.id)
contains-theirs us s o = contains-retain s (λ (p : Op). is_theirs us p.id) o (λ x e. ap (λ (p : Op). is_theirs us p.id) (sym (op_exact o x e)))

pub theirs_parts : (us : List (List ℕ)) (s : Ops) (o : Op) → contains (theirs us s) o ≡ true → (contains s o ≡ true) × (is_theirs us o.id ≡ true)
theirs_parts us s o h = and_parts _ _ (sym (contains-theirs us s o) ∙ h)

-- a number that was seen of theirs is that of an operation of theirs
pub number_theirs : (us : List (List ℕ)) (x : Content) (i : Id) → contains (from_offices us x).seen i ≡ true → is_theirs us i ≡ true
number_theirs us x i h =
    let r = member_from_any op_total op_exact (λ (o : Op). is_same i o.id) (theirs us x.ops) (sym (contains-ids (theirs us x.ops) i) ∙ h) in
    subst (λ (j : Id). is_theirs us j ≡ true) (sym (is_same_exact i r.0.id r.2)) (theirs_parts us x.ops r.0 r.1).1

pub gains_operation : (us : List (List ℕ)) (x y : Content) (o : Op) → contains (merged x (from_offices us y)).ops o ≡ true
    → (contains x.ops o ≡ true) ⊎ ((is_theirs us o.id ≡ true) × (contains y.ops o ≡ true))
gains_operation us x y o h =
    elim (or_cases (contains x.ops o) (contains (from_offices us y).ops o)
    (sym (contains_op-union x.ops (from_offices us y).ops o) ∙ kept_is_within (union x.ops (from_offices us y).ops) o h)) [
      | inl a ↦ inl a
      | inr b ↦ let p = theirs_parts us y.ops o (kept_is_within (theirs us y.ops) o b) in inr (p.1, p.0)
    ]

pub gains_number : (us : List (List ℕ)) (x y : Content) (i : Id) → contains (merged x (from_offices us y)).seen i ≡ true
    → (contains x.seen i ≡ true) ⊎ (is_theirs us i ≡ true)
gains_number us x y i h =
    elim (or_cases (contains x.seen i) (contains (from_offices us y).seen i) (sym (contains-union id_total x.seen (from_offices us y).seen i) ∙ h)) [
      | inl a ↦ inl a
      | inr b ↦ inr (number_theirs us y i b)
    ]

within : (us : List (List ℕ)) (s : Ops) (o : Op) → contains (theirs us s) o ≡ true → contains s o ≡ true
within us s o h = (theirs_parts us s o h).0

pub theirs_is_content : (us : List (List ℕ)) (x : Content) → IsContent x → IsContent (from_offices us x)
theirs_is_content us x is =
    state_is_content (theirs us x.ops) (λ o h. is.are_operations o (within us x.ops o h)) (OneBody-within (theirs us x.ops) x.ops (within us x.ops) is.one_body)

pub theirs_all : (us : List (List ℕ)) (x : Content) (o : Op) → IsContent x → contains x.ops o ≡ true → is_theirs us o.id ≡ true → contains (from_offices us x).ops o ≡ true
theirs_all us x o is h mine =
    subst (λ (s : Ops). contains s o ≡ true) (sym (kept_part x.ops (theirs us x.ops) is.is_kept (within us x.ops)))
    (contains-theirs us x.ops o ∙ and_from _ _ h mine)
