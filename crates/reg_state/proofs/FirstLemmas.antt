-- Of sorted marks, `firsts` takes the least ones.
use Rattle.std.proofs.Common.{◌≡◌, ℕ, ◌<◌, ◌≤◌, ◌+◌, zero, suc, true, false, ◌||◌, cond, List, [], ◌∷◌, length, get_or, Option, Some, None, refl, sym, ap, ◌∙◌, subst, inl, inr, arith}
use Rattle.std.proofs.lemmas.Bool.{true≢false, and_from, and_parts, or_cases, or_left, or_right, false_from_ne_true, not-true, not_from_false}
use Rattle.std.proofs.lemmas.List.Sorted.{ranks_by, sorted_far, list_any-IsPermutation}
use Rattle.std.proofs.lemmas.List.Folds.{list_any-append}
use Rattle.std.proofs.Common.{◌++◌}
use Rattle.std.specs.List.Sorted.{IsSorted, IsPermutation}
use Rattle.std.specs.Cmp.{tied_itself, Equal-is, both_ways}
use Rattle.std.specs.Ordering.{is_lt, is_eq, eq_by_cmp}
use Rattle.reg_op.specs.Set as set
use Rattle.reg_op.specs.Set.{contains-from_list, same_set}
use Rattle.reg_op.proofs.FiniteLemmas.{any_from_member, member_from_any, contains-topmost}
use Rattle.reg_state.specs.declared.mark.Mark.{Mark}
use Rattle.reg_state.specs.declared.mark.MarkTarget.{MarkTarget}
use Rattle.reg_state.specs.MarkSets.{target_cmp, mark_cmp, has, MarkSet, lessens, least, covers, is_covered, firsts}
use Rattle.reg_state.specs.MarkLaws.{mark_total, mark_exact, lessens_irreflexive, lessens_chain}
use Rattle.reg_state.proofs.OrderLemmas.{IsBy, by_target}
use Rattle.reg_state.proofs.CoverLemmas.{lesser_covers, lesser_first, first_lessens, first_of, covers_chain, begins_covered}

abbrev pub AllBy : Mark → List Mark → Type 0
AllBy x [] = Unit {0}
AllBy x (y ∷ ys) = IsBy x y × AllBy x ys

abbrev pub Up : List Mark → Type 0
Up [] = Unit {0}
Up (x ∷ xs) = AllBy x xs × Up xs

up_of : (xs : List Mark) → ((i j : ℕ) (d : Mark) → i ≤ j → j < length xs → IsBy (get_or xs i d) (get_or xs j d)) → Up xs
up_of [] far = tt
up_of (x ∷ xs) far = (all xs (λ j d h. far 0 (suc j) d (omega arith) (omega arith)), up_of xs (λ i j d a b. far (suc i) (suc j) d (omega arith) (omega arith)))
  where
    all : (ys : List Mark) → ((j : ℕ) (d : Mark) → j < length ys → IsBy x (get_or ys j d)) → AllBy x ys
    all [] h = tt
    all (y ∷ ys) h = (h 0 y (omega arith), all ys (λ j d k. h (suc j) d (omega arith)))

pub sorted_up : (xs : List Mark) → IsSorted mark_cmp xs → Up xs
sorted_up xs h = up_of xs (sorted_far (λ m n. is_lt (mark_cmp m n)) (ranks_by mark_total (λ m. m)) xs h)

all_by : (x : Mark) (xs : List Mark) (q : Mark) → AllBy x xs → has xs q ≡ true → IsBy x q
all_by x [] q h k = absurd (true≢false (sym k))
all_by x (y ∷ ys) q h k = elim (or_cases (eq_by_cmp mark_cmp q y) (has ys q) k) [
  | inl e ↦ subst (IsBy x) (sym (mark_exact q y ((Equal-is (mark_cmp q y)).0 e))) h.0
  | inr e ↦ all_by x ys q h.1 e
]

-- no mark of the list is below the target
abbrev AllFrom : Option MarkTarget → List Mark → Type 0
AllFrom None xs = Unit {0}
AllFrom (Some t) xs = (q : Mark) → has xs q ≡ true → is_lt (target_cmp q.target t) ≡ false

from_by : (x : Mark) (xs : List Mark) → AllBy x xs → AllFrom (Some x.target) xs
from_by x xs h q k = by_target x q (all_by x xs q h k)

from_rest : (t : Option MarkTarget) (x : Mark) (xs : List Mark) → AllFrom t (x ∷ xs) → AllFrom t xs
from_rest None x xs h = tt
from_rest (Some t) x xs h = λ q k. h q (or_right (eq_by_cmp mark_cmp q x) _ k)

itself : (x : Mark) → eq_by_cmp mark_cmp x x ≡ true
itself x = ap is_eq (tied_itself mark_total x)

-- if t does not cover the first of marks that are not below t, it covers no later mark
not_covered_later : (t : Option MarkTarget) (x : Mark) (xs : List Mark) (q : Mark) → AllFrom t (x ∷ xs) → IsBy x q → is_covered t x ≡ false → is_covered t q ≡ false
not_covered_later None x xs q from by no_x = refl
not_covered_later (Some t) x xs q from by no_x = false_from_ne_true _ (λ at.
    true≢false (sym ((begins_covered t).down x q by (from x (or_left _ _ (itself x))) at) ∙ no_x))

covered_chain : (t : Option MarkTarget) (x q : Mark) → is_covered t x ≡ true → covers x.target q ≡ true → is_covered t q ≡ true
covered_chain None x q h e = absurd (true≢false (sym h))
covered_chain (Some t) x q h e = covers_chain t x q h e

abbrev NoLesser : List Mark → Mark → Type 0
NoLesser xs q = (p : Mark) → has xs p ≡ true → lessens p q ≡ true → ⊥

pub eq_of : (q x : Mark) → eq_by_cmp mark_cmp q x ≡ true → q ≡ x
eq_of q x h = mark_exact q x ((Equal-is (mark_cmp q x)).0 h)

pub sound : (t : Option MarkTarget) (xs : List Mark) (q : Mark) → Up xs → AllFrom t xs → has (firsts t xs) q ≡ true → (has xs q ≡ true) × NoLesser xs q × (is_covered t q ≡ false)
sound t [] q up from h = absurd (true≢false (sym h))
sound t (x ∷ xs) q up from h =
    elim (is_covered t x) as (λ b. is_covered t x ≡ b → has (cond b (firsts t xs) (x ∷ firsts (Some x.target) xs)) q ≡ true → (has (x ∷ xs) q ≡ true) × NoLesser (x ∷ xs) q × (is_covered t q ≡ false)) [
      | true ↦ λ at h.
          let r = sound t xs q up.1 (from_rest t x xs from) h in (
            or_right (eq_by_cmp mark_cmp q x) _ r.0,
            λ p k l. elim (or_cases (eq_by_cmp mark_cmp p x) (has xs p) k) [
              | inl e ↦ true≢false (sym (covered_chain t x q at (subst (λ (m : Mark). covers m.target q ≡ true) (eq_of p x e) (lesser_covers p q l))) ∙ r.2)
              | inr e ↦ r.1 p e l
            ],
            r.2,
          )
      | false ↦ λ no_x h. elim (or_cases (eq_by_cmp mark_cmp q x) (has (firsts (Some x.target) xs) q) h) [
        | inl e ↦ let is = eq_of q x e in (
          or_left _ _ e,
          λ p k l. elim (or_cases (eq_by_cmp mark_cmp p x) (has xs p) k) [
            | inl f ↦ lessens_irreflexive x (subst (λ m. lessens x m ≡ true) is (subst (λ m. lessens m q ≡ true) (eq_of p x f) l))
            | inr f ↦ true≢false (sym (lesser_first p x (subst (λ m. lessens p m ≡ true) is l)) ∙ all_by x xs p up.0 f)
          ],
          subst (λ m. is_covered t m ≡ false) (sym is) no_x,
        )
        | inr e ↦
            let r = sound (Some x.target) xs q up.1 (from_by x xs up.0) e in (
              or_right (eq_by_cmp mark_cmp q x) _ r.0,
              λ p k l. elim (or_cases (eq_by_cmp mark_cmp p x) (has xs p) k) [
                | inl f ↦ true≢false (sym (subst (λ (m : Mark). covers m.target q ≡ true) (eq_of p x f) (lesser_covers p q l)) ∙ r.2)
                | inr f ↦ r.1 p f l
              ],
              not_covered_later t x xs q from (all_by x xs q up.0 r.0) no_x,
            )
      ]
    ] refl h

pub complete : (t : Option MarkTarget) (xs : List Mark) (q : Mark) → Up xs → has xs q ≡ true → NoLesser xs q → is_covered t q ≡ false → has (firsts t xs) q ≡ true
complete t [] q up h none no_q = absurd (true≢false (sym h))
complete t (x ∷ xs) q up h none no_q =
    elim (is_covered t x) as (λ b. is_covered t x ≡ b → has (cond b (firsts t xs) (x ∷ firsts (Some x.target) xs)) q ≡ true) [
      | true ↦ λ at. elim (or_cases (eq_by_cmp mark_cmp q x) (has xs q) h) [
        | inl e ↦ absurd (true≢false (sym (subst (λ m. is_covered t m ≡ true) (sym (eq_of q x e)) at) ∙ no_q))
        | inr e ↦ complete t xs q up.1 e (λ p k l. none p (or_right (eq_by_cmp mark_cmp p x) _ k) l) no_q
      ]
      | false ↦ λ no_x. elim (eq_by_cmp mark_cmp q x) as (λ b. eq_by_cmp mark_cmp q x ≡ b → (b || has (firsts (Some x.target) xs) q) ≡ true) [
        | true ↦ λ e. refl
        | false ↦ λ other.
            let later : has xs q ≡ true = (λ k. sym other k || has xs q) ∙ h in
            complete (Some x.target) xs q up.1 later (λ p k l. none p (or_right (eq_by_cmp mark_cmp p x) _ k) l)
            (false_from_ne_true _ (λ at. none x (or_left _ _ (itself x)) (first_lessens x q at (first_of x q (all_by x xs q up.0 later) other))))
      ] refl
    ] refl

pub firsts_least : (xs : List Mark) → IsSorted mark_cmp xs → set.from_list {R = mark_cmp} (firsts None xs) ≡ least (set.from_list {R = mark_cmp} xs)
firsts_least xs sorted =
    let s : MarkSet = set.from_list xs in
    let up = sorted_up xs sorted in
    same_set mark_total mark_exact _ _ (λ q.
    contains-from_list mark_total (firsts None xs) q
    ∙ both_ways _ _
    (λ h. let r = sound None xs q up tt h in
    contains-topmost mark_total mark_exact lessens lessens_irreflexive lessens_chain s q
    ∙ and_from _ _ (contains-from_list mark_total xs q ∙ r.0) (not_from_false _ (false_from_ne_true _ (λ a.
    let m = member_from_any mark_total mark_exact (λ p. lessens p q) s a in r.1 m.0 (sym (contains-from_list mark_total xs m.0) ∙ m.1) m.2))))
    (λ h. let p = and_parts _ _ (sym (contains-topmost mark_total mark_exact lessens lessens_irreflexive lessens_chain s q) ∙ h) in
    complete None xs q up (sym (contains-from_list mark_total xs q) ∙ p.0)
    (λ m k l. true≢false (sym (any_from_member mark_total mark_exact (λ y. lessens y q) s m (contains-from_list mark_total xs m ∙ k) l) ∙ not-true _ p.1))
    refl))

-- a permutation of a list has the same set
pub same_members : (xs ys : List Mark) → IsPermutation xs ys → set.from_list {R = mark_cmp} ys ≡ set.from_list {R = mark_cmp} xs
same_members xs ys h = same_set mark_total mark_exact _ _ (λ q.
    contains-from_list mark_total ys q
    ∙ sym (list_any-IsPermutation (eq_by_cmp mark_cmp q) xs ys h)
    ∙ sym (contains-from_list mark_total xs q))

-- lists with the same members have the same set
pub same_has : (xs ys : List Mark) → ((q : Mark) → has xs q ≡ has ys q) → set.from_list {R = mark_cmp} xs ≡ set.from_list {R = mark_cmp} ys
same_has xs ys h = same_set mark_total mark_exact _ _ (λ q. contains-from_list mark_total xs q ∙ h q ∙ sym (contains-from_list mark_total ys q))

-- the set of two appended lists is the union of their sets
pub set-append : (xs ys : List Mark) → set.from_list {R = mark_cmp} (xs ++ ys) ≡ set.union (set.from_list xs) (set.from_list ys)
set-append xs ys = same_set mark_total mark_exact _ _ (λ q.
    contains-from_list mark_total (xs ++ ys) q
    ∙ list_any-append (eq_by_cmp mark_cmp q) xs ys
    ∙ sym (set.contains-union mark_total (set.from_list xs) (set.from_list ys) q ∙ (λ k. contains-from_list mark_total xs q k || contains-from_list mark_total ys q k)))

-- ---- `firsts` of sorted marks is sorted

all_firsts : (x : Mark) (t : Option MarkTarget) (xs : List Mark) → AllBy x xs → AllBy x (firsts t xs)
all_firsts x t [] h = tt
all_firsts x t (y ∷ ys) h =
    elim (is_covered t y) as (λ b. AllBy x (cond b (firsts t ys) (y ∷ firsts (Some y.target) ys))) [ true ↦ all_firsts x t ys h.1 | false ↦ (h.0, all_firsts x (Some y.target) ys h.1) ]

firsts_up : (t : Option MarkTarget) (xs : List Mark) → Up xs → Up (firsts t xs)
firsts_up t [] up = tt
firsts_up t (x ∷ xs) up =
    elim (is_covered t x) as (λ b. Up (cond b (firsts t xs) (x ∷ firsts (Some x.target) xs))) [
      | true ↦ firsts_up t xs up.1
      | false ↦ (all_firsts x (Some x.target) xs up.0, firsts_up (Some x.target) xs up.1)
    ]

all_at : (x : Mark) (xs : List Mark) → AllBy x xs → (j : ℕ) (d : Mark) → j < length xs → IsBy x (get_or xs j d)
all_at x [] h j d k = absurd (omega arith)
all_at x (y ∷ ys) h zero d k = h.0
all_at x (y ∷ ys) h (suc j) d k = all_at x ys h.1 j d (omega arith)

up_far : (xs : List Mark) → Up xs → (i j : ℕ) (d : Mark) → i < j → j < length xs → IsBy (get_or xs i d) (get_or xs j d)
up_far [] up i j d a b = absurd (omega arith)
up_far (x ∷ xs) up i zero d a b = absurd (omega arith)
up_far (x ∷ xs) up zero (suc j) d a b = all_at x xs up.0 j d (omega arith)
up_far (x ∷ xs) up (suc i) (suc j) d a b = up_far xs up.1 i j d (omega arith) (omega arith)

pub up_sorted : (xs : List Mark) → Up xs → IsSorted mark_cmp xs
up_sorted xs up k d a b = up_far xs up k (k + 1) d (omega arith) b

pub firsts_sorted : (xs : List Mark) → IsSorted mark_cmp xs → IsSorted mark_cmp (firsts None xs)
firsts_sorted xs h = up_sorted (firsts None xs) (firsts_up None xs (sorted_up xs h))

pub empty_sorted : IsSorted mark_cmp []
empty_sorted = up_sorted [] tt
