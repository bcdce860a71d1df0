-- A mark is inserted into marks. None of these is redundant.
use Rattle.std.proofs.Common.{◌≡◌, ℕ, ◌<◌, ◌≤◌, Bool, true, false, not, ◌&&◌, ◌||◌, cond, List, [], ◌∷◌, ◌++◌, length, get_or, take, drop, zero, suc, filter, Option, Some, None, is_some, refl, sym, ap, ◌∙◌, subst, inl, inr, arith}
use Rattle.std.proofs.lemmas.Bool.{true≢false, and_from, and_parts, or_cases, or_left, or_right, or_parts, not-true, not_from_false, false_from_ne_true, true_from_ne_false}
use Rattle.std.proofs.lemmas.List.{take-append-drop}
use Rattle.std.proofs.lemmas.List.Folds.{list_any-append}
use Rattle.std.proofs.Math.Bool.{and-false, and-true, and_assoc, or-false}
use Rattle.std.specs.List.{insert, list_any}
use Rattle.std.specs.List.Sorted.{IsSorted, IsPartitionPoint}
use Rattle.std.specs.Cmp.{tied_itself, tied_then, both_ways}
use Rattle.std.specs.Option.{option_cmp}
use Rattle.std.specs.Ordering.{is_lt, is_eq, eq_by_cmp, ordering_then}
use Rattle.std.specs.declared.cmp.Ordering.{Ordering}
use Rattle.std.specs.declared.cmp.Ordering.TheVariants.{Less, Equal, Greater}
use Rattle.reg_op.specs.Set as set
use Rattle.reg_op.specs.Set.{contains, contains-from_list, contains-insert, same_set}
use Rattle.reg_op.specs.Finite.{any}
use Rattle.reg_op.specs.Ids.{Id, id_cmp, is_same, is_before}
use Rattle.reg_op.proofs.FiniteLemmas.{any_from_member, member_from_any, contains-topmost, list_any-or}
use Rattle.reg_state.specs.declared.mark.Mark.{Mark}
use Rattle.reg_state.specs.declared.mark.MarkTarget.{MarkTarget}
use Rattle.reg_state.specs.MarkSets.{mark_cmp, is_at, has, MarkSet, lessens_by, lessens, least, AreLeast, covers, AreMarks}
use Rattle.reg_state.specs.MarkLaws.{mark_total, mark_exact, lessens_irreflexive, lessens_chain, least_least}
use Rattle.reg_state.proofs.OrderLemmas.{IsBy}
use Rattle.reg_state.proofs.CoverLemmas.{lesser_covers, first_lessens, covered_lessens, first_of, then_less}
use Rattle.reg_state.proofs.FirstLemmas.{AllBy, Up, sorted_up, up_sorted, eq_of}
use Rattle.reg_state.proofs.MarkMergeLemmas.{first_by, by_chain}

-- ---- a mark that makes m redundant is at the target of m, or retires the entry that m supersedes

pub then_equal : (r : Ordering) → is_eq (ordering_then r Equal) ≡ is_eq r
then_equal Less = refl
then_equal Equal = refl
then_equal Greater = refl

pub then_greater : (r : Ordering) → is_eq (ordering_then r Greater) ≡ false
then_greater Less = refl
then_greater Equal = refl
then_greater Greater = refl

parts_by : (r : Ordering) (x y : Option Id) (before : Bool)
    → (is_eq r && lessens_by x y before)
    ≡ ((is_eq (ordering_then r (option_cmp id_cmp x y)) && before) || (is_some y && is_eq (ordering_then r (option_cmp id_cmp x None))))
parts_by r None None before = sym ((λ k. (then_equal r k && before) || false) ∙ or-false _)
parts_by r None (Some o) before = and-true (is_eq r) ∙ sym (λ k. (then_less r k && before) || then_equal r k)
parts_by r (Some n) None before = and-false (is_eq r) ∙ sym (λ k. (then_greater r k && before) || false)
parts_by r (Some n) (Some o) before =
    sym ((λ k. (sym (tied_then r (id_cmp n o)) k && before) || then_greater r k) ∙ or-false _ ∙ and_assoc (is_eq r) (is_same n o) before)

lessens_parts : (p m : Mark) → lessens p m ≡ ((is_at m.target p && is_before p.id m.id) || (is_some m.target.by && is_at (record { entry = m.target.entry; by = None }) p))
lessens_parts p m = parts_by (id_cmp p.target.entry m.target.entry) p.target.by m.target.by (is_before p.id m.id)

any_and : (b : Bool) (f : Mark → Bool) (ms : List Mark) → list_any (λ m. b && f m) ms ≡ (b && list_any f ms)
any_and true f ms = refl
any_and false f [] = refl
any_and false f (m ∷ ms) = any_and false f ms

pub any_lessens : (s : MarkSet) (m : Mark)
    → any (λ p. lessens p m) s ≡ (any (λ p. is_at m.target p && is_before p.id m.id) s || (is_some m.target.by && any (λ p. is_at (record { entry = m.target.entry; by = None }) p) s))
any_lessens s m =
    (λ k. list_any (λ p. lessens_parts p m k) (set.items s))
    ∙ list_any-or (λ p. is_at m.target p && is_before p.id m.id) (λ p. is_some m.target.by && is_at (record { entry = m.target.entry; by = None }) p) (set.items s)
    ∙ ap (λ b. any (λ p. is_at m.target p && is_before p.id m.id) s || b) (any_and (is_some m.target.by) (λ p. is_at (record { entry = m.target.entry; by = None }) p) (set.items s))

-- ---- a redundant mark

lesser_in : (s : MarkSet) (m p : Mark) → contains s p ≡ true → lessens p m ≡ true → any (λ q. lessens q m) s ≡ true
lesser_in s m p h l = any_from_member mark_total mark_exact (λ q. lessens q m) s p h l

pub contains-least : (s : MarkSet) (q : Mark) → contains (least s) q ≡ (contains s q && not (any (λ p. lessens p q) s))
contains-least s q = contains-topmost mark_total mark_exact lessens lessens_irreflexive lessens_chain s q

least_free : (s : MarkSet) → AreLeast s → (p q : Mark) → contains s p ≡ true → contains s q ≡ true → lessens p q ≡ true → ⊥
least_free s are p q h k l =
    let in_least : contains (least s) q ≡ true = subst (λ t. contains t q ≡ true) (sym are) k in
    true≢false (sym (lesser_in s q p h l) ∙ not-true _ (and_parts _ _ (sym (contains-least s q) ∙ in_least)).1)

pub least_has : (s : MarkSet) (q : Mark) → contains s q ≡ true → ((p : Mark) → contains s p ≡ true → lessens p q ≡ true → ⊥) → contains (least s) q ≡ true
least_has s q h free = contains-least s q ∙ and_from _ _ h (not_from_false _ (false_from_ne_true _ (λ a.
    let r = member_from_any mark_total mark_exact (λ p. lessens p q) s a in free r.0 r.1 r.2)))

in_more : (s : MarkSet) (m q : Mark) → contains s q ≡ true → contains (set.insert s m) q ≡ true
in_more s m q h = contains-insert mark_total s m q ∙ or_right (eq_by_cmp mark_cmp q m) _ h

the_one : (s : MarkSet) (m : Mark) → contains (set.insert s m) m ≡ true
the_one s m = contains-insert mark_total s m m ∙ or_left _ _ (ap is_eq (tied_itself mark_total m))

-- if a mark of s makes m redundant, inserting m does not change the least marks
pub needless : (s : MarkSet) (m : Mark) → AreLeast s → any (λ p. lessens p m) s ≡ true → s ≡ least (set.insert s m)
needless s m are h =
    let l = member_from_any mark_total mark_exact (λ p. lessens p m) s h in
    same_set mark_total mark_exact _ _ (λ q. both_ways _ _
    (λ k. least_has (set.insert s m) q (in_more s m q k) (λ p a b. elim (or_cases (eq_by_cmp mark_cmp p m) (contains s p) (sym (contains-insert mark_total s m p) ∙ a)) [
      | inl e ↦ least_free s are l.0 q l.1 k (lessens_chain l.0 m q l.2 (subst (λ x. lessens x q ≡ true) (eq_of p m e) b))
      | inr e ↦ least_free s are p q e k b
    ]))
    (λ k. let a = and_parts _ _ (sym (contains-least (set.insert s m) q) ∙ k) in
    elim (or_cases (eq_by_cmp mark_cmp q m) (contains s q) (sym (contains-insert mark_total s m q) ∙ a.0)) [
      | inl e ↦ absurd (true≢false (sym (lesser_in (set.insert s m) q l.0 (in_more s m l.0 l.1) (subst (λ x. lessens l.0 x ≡ true) (sym (eq_of q m e)) l.2)) ∙ not-true _ a.1))
      | inr e ↦ e
    ]))

-- ---- the marks that the new mark covers are removed

abbrev pub uncovered : MarkTarget → List Mark → List Mark
uncovered t ms = filter (λ m. not (covers t m)) ms

pub none_covered : (t : MarkTarget) (ms : List Mark) → list_any (covers t) ms ≡ false → ms ≡ uncovered t ms
none_covered t [] h = refl
none_covered t (x ∷ xs) h =
    let p = or_parts (covers t x) (list_any (covers t) xs) h in
    λ k. cond (not (sym p.0 k)) (x ∷ none_covered t xs p.1 k) (none_covered t xs p.1 k)

all_uncovered : (x : Mark) (t : MarkTarget) (ms : List Mark) → AllBy x ms → AllBy x (uncovered t ms)
all_uncovered x t [] h = tt
all_uncovered x t (y ∷ ys) h =
    elim (not (covers t y)) as (λ b. AllBy x (cond b (y ∷ uncovered t ys) (uncovered t ys))) [ true ↦ (h.0, all_uncovered x t ys h.1) | false ↦ all_uncovered x t ys h.1 ]

uncovered_up : (t : MarkTarget) (ms : List Mark) → Up ms → Up (uncovered t ms)
uncovered_up t [] h = tt
uncovered_up t (y ∷ ys) h =
    elim (not (covers t y)) as (λ b. Up (cond b (y ∷ uncovered t ys) (uncovered t ys))) [ true ↦ (all_uncovered y t ys h.0, uncovered_up t ys h.1) | false ↦ uncovered_up t ys h.1 ]

pub uncovered_sorted : (t : MarkTarget) (ms out : List Mark) → IsSorted mark_cmp ms → out ≡ uncovered t ms → IsSorted mark_cmp out
uncovered_sorted t ms out h e = subst (IsSorted mark_cmp) (sym e) (up_sorted (uncovered t ms) (uncovered_up t ms (sorted_up ms h)))

has_uncovered : (t : MarkTarget) (ms : List Mark) (q : Mark) → has (uncovered t ms) q ≡ (has ms q && not (covers t q))
has_uncovered t [] q = refl
has_uncovered t (x ∷ xs) q =
    elim (eq_by_cmp mark_cmp q x) as (λ b. eq_by_cmp mark_cmp q x ≡ b → has (cond (not (covers t x)) (x ∷ uncovered t xs) (uncovered t xs)) q ≡ ((b || has xs q) && not (covers t q))) [
      | true ↦ λ e. this (not (covers t x)) true e ∙ (λ k. (not (covers t (sym (eq_of q x e) k)) && true) || has_uncovered t xs q k) ∙ first (not (covers t q)) (has xs q)
      | false ↦ λ e. this (not (covers t x)) false e ∙ (λ k. and-false (not (covers t x)) k || has_uncovered t xs q k)
    ] refl
  where
    this : (b e : Bool) → eq_by_cmp mark_cmp q x ≡ e → has (cond b (x ∷ uncovered t xs) (uncovered t xs)) q ≡ ((b && e) || has (uncovered t xs) q)
    this true e h = λ k. h k || has (uncovered t xs) q
    this false e h = refl

    first : (b h : Bool) → ((b && true) || (h && b)) ≡ b
    first true h = refl
    first false true = refl
    first false false = refl

-- ---- the new mark is inserted

all_put : (x : Mark) (i : ℕ) (xs : List Mark) (m : Mark) → AllBy x xs → IsBy x m → AllBy x (take i xs ++ m ∷ drop i xs)
all_put x zero xs m h b = (b, h)
all_put x (suc i) [] m h b = (b, tt)
all_put x (suc i) (y ∷ ys) m h b = (h.0, all_put x i ys m h.1 b)

all_from : (x : Mark) (xs : List Mark) → ((j : ℕ) (d : Mark) → j < length xs → IsBy x (get_or xs j d)) → AllBy x xs
all_from x [] h = tt
all_from x (y ∷ ys) h = (h 0 y (omega arith), all_from x ys (λ j d a. h (suc j) d (omega arith)))

up_put : (i : ℕ) (xs : List Mark) (m : Mark) → Up xs
    → ((j : ℕ) (d : Mark) → j < length xs → j < i → IsBy (get_or xs j d) m)
    → ((j : ℕ) (d : Mark) → i ≤ j → j < length xs → IsBy m (get_or xs j d))
    → Up (take i xs ++ m ∷ drop i xs)
up_put zero xs m up low high = (all_from m xs (λ j d a. high j d (omega arith) a), up)
up_put (suc i) [] m up low high = (tt, tt)
up_put (suc i) (x ∷ xs) m up low high = (
  all_put x i xs m up.0 (low 0 m (omega arith) (omega arith)),
  up_put i xs m up.1 (λ j d a b. low (suc j) d (omega arith) (omega arith)) (λ j d a b. high (suc j) d (omega arith) (omega arith)),
)

pub below_chain : (m : Mark) (x y : Mark) → IsBy x y → is_lt (mark_cmp y m) ≡ true → is_lt (mark_cmp x m) ≡ true
below_chain m x y h k = true_from_ne_false _ (λ late. true≢false (sym k ∙ by_chain m x y late h))

pub put_sorted : (i : ℕ) (xs out : List Mark) (m : Mark) → IsSorted mark_cmp xs → out ≡ insert xs i m
    → IsPartitionPoint (λ y. is_lt (mark_cmp y m) ≡ true) (λ y. is_lt (mark_cmp y m) ≡ false) xs i → IsSorted mark_cmp out
put_sorted i xs out m h e point =
    subst (IsSorted mark_cmp) (sym e) (up_sorted (insert xs i m) (up_put i xs m (sorted_up xs h) (λ j d a b. first_by m (get_or xs j d) (point.0 j d (omega arith) b)) (λ j d a b. point.1 j d a b)))

has_put : (i : ℕ) (xs : List Mark) (m q : Mark) → has (insert xs i m) q ≡ (eq_by_cmp mark_cmp q m || has xs q)
has_put i xs m q =
    list_any-append (eq_by_cmp mark_cmp q) (take i xs) (m ∷ drop i xs)
    ∙ turned (has (take i xs) q) (eq_by_cmp mark_cmp q m) (has (drop i xs) q)
    ∙ ap (λ b. eq_by_cmp mark_cmp q m || b) (sym (list_any-append (eq_by_cmp mark_cmp q) (take i xs) (drop i xs)) ∙ ap (λ l. has l q) (take-append-drop i xs))
  where
    turned : (a b d : Bool) → (a || (b || d)) ≡ (b || (a || d))
    turned true true d = refl
    turned true false d = refl
    turned false b d = refl

-- if m is not redundant, removing the marks that it covers and inserting it gives the least marks
put_least : (xs : List Mark) (i : ℕ) (m : Mark) → AreLeast (set.from_list {R = mark_cmp} xs) → any (λ p. lessens p m) (set.from_list {R = mark_cmp} xs) ≡ false
    → set.from_list {R = mark_cmp} (insert (uncovered m.target xs) i m) ≡ least (set.insert (set.from_list xs) m)
put_least xs i m are fresh =
    let s : MarkSet = set.from_list xs in
    let none : (p : Mark) → contains s p ≡ true → lessens p m ≡ true → ⊥ = λ p h l. true≢false (sym (lesser_in s m p h l) ∙ fresh) in
    same_set mark_total mark_exact _ _ (λ q.
    contains-from_list mark_total (insert (uncovered m.target xs) i m) q
    ∙ has_put i (uncovered m.target xs) m q
    ∙ both_ways _ _
    (λ k. elim (or_cases (eq_by_cmp mark_cmp q m) (has (uncovered m.target xs) q) k) [
      | inl e ↦ subst (λ x. contains (least (set.insert s m)) x ≡ true) (sym (eq_of q m e))
          (least_has (set.insert s m) m (the_one s m) (λ p a b. elim (or_cases (eq_by_cmp mark_cmp p m) (contains s p) (sym (contains-insert mark_total s m p) ∙ a)) [
            | inl f ↦ lessens_irreflexive m (subst (λ x. lessens x m ≡ true) (eq_of p m f) b)
            | inr f ↦ none p f b
          ]))
      | inr e ↦
          let u = and_parts _ _ (sym (has_uncovered m.target xs q) ∙ e) in
          let there : contains s q ≡ true = contains-from_list mark_total xs q ∙ u.0 in
          least_has (set.insert s m) q (in_more s m q there) (λ p a b. elim (or_cases (eq_by_cmp mark_cmp p m) (contains s p) (sym (contains-insert mark_total s m p) ∙ a)) [
            | inl f ↦ true≢false (sym (subst (λ (x : Mark). covers x.target q ≡ true) (eq_of p m f) (lesser_covers p q b)) ∙ not-true _ u.1)
            | inr f ↦ least_free s are p q f there b
          ])
    ])
    (λ k. let a = and_parts _ _ (sym (contains-least (set.insert s m) q) ∙ k) in
    elim (eq_by_cmp mark_cmp q m) as (λ b. eq_by_cmp mark_cmp q m ≡ b → (b || has (uncovered m.target xs) q) ≡ true) [
      | true ↦ λ e. refl
      | false ↦ λ e.
          let there : contains s q ≡ true = (λ j. sym e j || contains s q) ∙ sym (contains-insert mark_total s m q) ∙ a.0 in
          has_uncovered m.target xs q ∙ and_from _ _ (sym (contains-from_list mark_total xs q) ∙ there) (not_from_false _ (false_from_ne_true _ (λ c.
          let first : is_lt (mark_cmp m q) ≡ true = first_of m q (false_from_ne_true _ (λ early. none q there (covered_lessens m q c early))) e in
          true≢false (sym (lesser_in (set.insert s m) q m (the_one s m) (first_lessens m q c first)) ∙ not-true _ a.1))))
    ] refl))

pub put_is : (xs out : List Mark) (s : MarkSet) (i : ℕ) (m : Mark) → AreMarks xs → set.from_list {R = mark_cmp} xs ≡ s → any (λ p. lessens p m) s ≡ false → out ≡ insert (uncovered m.target xs) i m
    → set.from_list {R = mark_cmp} out ≡ least (set.insert s m)
put_is xs out s i m is e fresh f =
    ap (λ (l : List Mark). set.from_list {R = mark_cmp} l) f
    ∙ put_least xs i m is.are_least (ap (any (λ p. lessens p m)) e ∙ fresh)
    ∙ ap (λ t. least (set.insert t m)) e

pub put_marks : (xs out : List Mark) (s : MarkSet) (i : ℕ) (m : Mark) → AreMarks xs → set.from_list {R = mark_cmp} xs ≡ s → any (λ p. lessens p m) s ≡ false → out ≡ insert (uncovered m.target xs) i m
    → IsSorted mark_cmp out → AreMarks out
put_marks xs out s i m is e fresh f up = record { sorted = up; are_least = subst AreLeast (sym (put_is xs out s i m is e fresh f)) (least_least (set.insert s m)) }
