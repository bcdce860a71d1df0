-- The marks of the kept operations of a set are the least marks of the whole set.
use Rattle.std.proofs.Common.{◌≡◌, Result, Ok, Option, Some, None, Bool, true, false, ◌||◌, List, [], ◌∷◌, ◌++◌, refl, sym, ap, ◌∙◌, inl, inr}
use Rattle.std.proofs.lemmas.Bool.{true≢false, and_parts, or_cases, or_left, not-true}
use Rattle.std.proofs.lemmas.List.Folds.{list_any-append}
use Rattle.std.proofs.Math.Bool.{and-false, and-true}
use Rattle.std.specs.List.{list_any}
use Rattle.std.specs.declared.convert.Infallible.{Infallible}
use Rattle.std.specs.Cmp.{tied_itself, both_ways}
use Rattle.std.specs.Ordering.{is_eq, eq_by_cmp}
use Rattle.reg_op.specs.Set as set
use Rattle.reg_op.specs.Set.{contains, union, contains-from_list, contains-insert, contains-union, same_set}
use Rattle.reg_op.specs.Ids.{Id, is_before}
use Rattle.reg_op.specs.Finite.{any}
use Rattle.reg_op.specs.Operations.{Op, Ops, op_cmp, replaces, replaces_body, kept, one}
use Rattle.reg_op.specs.declared.operation.OpBody.{OpBody as Body}
use Rattle.reg_op.specs.declared.operation.OpBody.TheVariants.{Enter, Supersede, Retire}
use Rattle.reg_op.proofs.FiniteLemmas.{any_from_member, member_from_any, any-union}
use Rattle.reg_op.proofs.OpLemmas.{op_total, op_exact, replaces_chain}
use Rattle.reg_op.proofs.ContentLemmas.{kept_is_within}
use Rattle.reg_op.proofs.OneLemmas.{any-from_list, kept_free, kept_has}
use Rattle.reg_state.specs.declared.mark.Mark.{Mark}
use Rattle.reg_state.specs.MarkSets.{mark_cmp, has, MarkSet, lessens, least}
use Rattle.reg_state.specs.MarkLaws.{mark_total, mark_exact, least_least, least-union, merged_marks}
use Rattle.reg_state.proofs.InsertLemmas.{contains-least, least_has}
use Rattle.reg_state.proofs.FirstLemmas.{eq_of}
use Rattle.reg_state.specs.Marks.{marks_of, marks_of_body, mark_at, target_body, op_of, least_marks}

-- the marks that are set by the operations of a set
abbrev pub marks_in : Ops → MarkSet
marks_in s = set.from_list (marks_of (set.items s))

abbrev pub sets : Mark → Op → Bool
sets m o = has (marks_of_body o.id o.body) m

-- ---- the marks of a list and of its set

has_marks : (os : List Op) (m : Mark) → has (marks_of os) m ≡ list_any (sets m) os
has_marks [] m = refl
has_marks (o ∷ os) m = list_any-append (eq_by_cmp mark_cmp m) (marks_of_body o.id o.body) (marks_of os) ∙ ap (λ b. sets m o || b) (has_marks os m)

pub contains-marks : (s : Ops) (m : Mark) → contains (marks_in s) m ≡ any (sets m) s
contains-marks s m = contains-from_list mark_total (marks_of (set.items s)) m ∙ has_marks (set.items s) m

pub marks_of_list : (os : List Op) → set.from_list {R = mark_cmp} (marks_of os) ≡ marks_in (set.from_list {R = op_cmp} os)
marks_of_list os = same_set mark_total mark_exact _ _ (λ m.
    contains-from_list mark_total (marks_of os) m
    ∙ has_marks os m
    ∙ sym (contains-marks (set.from_list os) m ∙ any-from_list (sets m) os))

pub marks-union : (s t : Ops) → marks_in (union s t) ≡ union (marks_in s) (marks_in t)
marks-union s t = same_set mark_total mark_exact _ _ (λ m.
    contains-marks (union s t) m
    ∙ any-union op_total op_exact (sets m) s t
    ∙ sym (contains-union mark_total (marks_in s) (marks_in t) m ∙ (λ k. contains-marks s m k || contains-marks t m k)))

pub mark_in : (s : Ops) (m : Mark) (o : Op) → contains s o ≡ true → sets m o ≡ true → contains (marks_in s) m ≡ true
mark_in s m o h k = contains-marks s m ∙ any_from_member op_total op_exact (sets m) s o h k

setter_of : (s : Ops) (m : Mark) → contains (marks_in s) m ≡ true → (o : Op) × (contains s o ≡ true) × (sets m o ≡ true)
setter_of s m h = member_from_any op_total op_exact (sets m) s (sym (contains-marks s m) ∙ h)

-- ---- a mark makes another redundant if and only if the operation that sets it replaces the other's

the_mark : (n m : Mark) → has (n ∷ []) m ≡ true → m ≡ n
the_mark n m h = elim (or_cases (eq_by_cmp mark_cmp m n) false h) [ inl e ↦ eq_of m n e | inr e ↦ absurd (true≢false (sym e)) ]

own_mark : (m : Mark) → has (m ∷ []) m ≡ true
own_mark m = or_left _ _ (ap is_eq (tied_itself mark_total m))

lessens_at : (i j : Id) (b d : Body) (m n : Mark) → has (marks_of_body i b) m ≡ true → has (marks_of_body j d) n ≡ true → lessens m n ≡ replaces_body (is_before i j) b d
lessens_at i j (Enter s) d m n h k = absurd (true≢false (sym h))
lessens_at i j (Retire e) (Enter t) m n h k = absurd (true≢false (sym k))
lessens_at i j (Supersede old newer) (Enter t) m n h k = absurd (true≢false (sym k))
lessens_at i j (Retire e) (Retire f) m n h k = λ x. lessens (the_mark _ m h x) (the_mark _ n k x)
lessens_at i j (Retire e) (Supersede old newer) m n h k = (λ x. lessens (the_mark _ m h x) (the_mark _ n k x)) ∙ and-true _
lessens_at i j (Supersede old newer) (Retire e) m n h k = (λ x. lessens (the_mark _ m h x) (the_mark _ n k x)) ∙ and-false _
lessens_at i j (Supersede old newer) (Supersede old2 newer2) m n h k = λ x. lessens (the_mark _ m h x) (the_mark _ n k x)

pub lessens_replaces : (p o : Op) (m n : Mark) → sets m p ≡ true → sets n o ≡ true → lessens m n ≡ replaces p o
lessens_replaces p o m n h k = lessens_at p.id o.id p.body o.body m n h k

-- a body that replaces another sets a mark
mark_of_replacing : (i : Id) (before : Bool) (b d : Body) → replaces_body before b d ≡ true → (m : Mark) × (has (marks_of_body i b) m ≡ true)
mark_of_replacing i before (Enter s) (Enter t) h = absurd (true≢false (sym h))
mark_of_replacing i before (Enter s) (Supersede old newer) h = absurd (true≢false (sym h))
mark_of_replacing i before (Enter s) (Retire e) h = absurd (true≢false (sym h))
mark_of_replacing i before (Supersede old newer) d h = (mark_at old (Some newer) i, own_mark (mark_at old (Some newer) i))
mark_of_replacing i before (Retire e) d h = (mark_at e None i, own_mark (mark_at e None i))

-- a body that another replaces sets a mark
pub mark_of_replaced : (i : Id) (before : Bool) (b d : Body) → replaces_body before b d ≡ true → (m : Mark) × (has (marks_of_body i d) m ≡ true)
mark_of_replaced i before (Enter s) (Enter t) h = absurd (true≢false (sym h))
mark_of_replaced i before (Supersede old newer) (Enter t) h = absurd (true≢false (sym h))
mark_of_replaced i before (Retire e) (Enter t) h = absurd (true≢false (sym h))
mark_of_replaced i before b (Supersede old newer) h = (mark_at old (Some newer) i, own_mark (mark_at old (Some newer) i))
mark_of_replaced i before b (Retire e) h = (mark_at e None i, own_mark (mark_at e None i))

-- the operation of a mark sets that mark
own_op : (e : Id) (by : Option Id) (i : Id) → has (marks_of_body i (target_body e by)) (mark_at e by i) ≡ true
own_op e None i = own_mark (mark_at e None i)
own_op e (Some n) i = own_mark (mark_at e (Some n) i)

-- a mark that makes m redundant replaces what m replaces
pub replacing_falls : (q : Op) (p m : Mark) → lessens p m ≡ true → replaces (op_of m) q ≡ true → replaces (op_of p) q ≡ true
replacing_falls q p m h r =
    replaces_chain (op_of p) (op_of m) q
    (sym (lessens_replaces (op_of p) (op_of m) p m (own_op p.target.entry p.target.by p.id) (own_op m.target.entry m.target.by m.id)) ∙ h) r

-- ---- the marks of kept operations

pub marks_kept : (s : Ops) → marks_in (kept s) ≡ least (marks_in s)
marks_kept s = same_set mark_total mark_exact _ _ (λ m. both_ways _ _
    (λ h.
    let o = setter_of (kept s) m h in
    least_has (marks_in s) m (mark_in s m o.0 (kept_is_within s o.0 o.1) o.2) (λ n k l.
    let p = setter_of s n k in
    kept_free s o.0 p.0 o.1 p.1 (sym (lessens_replaces p.0 o.0 n m p.2 o.2) ∙ l)))
    (λ h.
    let a = and_parts _ _ (sym (contains-least (marks_in s) m) ∙ h) in
    let o = setter_of s m a.0 in
    mark_in (kept s) m o.0 (kept_has s o.0 o.1 (λ p k r.
    let n = mark_of_replacing p.id (is_before p.id o.0.id) p.body o.0.body r in
    true≢false (sym (any_from_member mark_total mark_exact (λ q. lessens q m) (marks_in s) n.0 (mark_in s n.0 p k n.1) (lessens_replaces p o.0 n.0 m n.1 o.2 ∙ r)) ∙ not-true _ a.1))) o.2))

pub least_is : (os : List Op) → least_marks os ≡ least (marks_in (set.from_list {R = op_cmp} os))
least_is os = ap least (marks_of_list os)

-- if no operation of a list replaces another, none of their marks is redundant
pub own_marks : (os : List Op) → kept (set.from_list {R = op_cmp} os) ≡ set.from_list os → least_marks os ≡ set.from_list (marks_of os)
own_marks os e = least_is os ∙ sym (marks_kept (set.from_list os)) ∙ ap marks_in e ∙ sym (marks_of_list os)

-- ---- the marks of a join

-- the marks of the joined operations are the merge of the marks of both
pub marks_of_join : (xs ys out : List Op) (ms ns os : MarkSet) → ms ≡ least_marks xs → ns ≡ least_marks ys
    → set.from_list {R = op_cmp} out ≡ kept (union (set.from_list {R = op_cmp} xs) (set.from_list {R = op_cmp} ys))
    → os ≡ merged_marks ms ns → os ≡ least_marks out
marks_of_join xs ys out ms ns os left right all joined =
    let s : Ops = set.from_list xs in
    let t : Ops = set.from_list ys in
    joined
    ∙ (λ k. merged_marks ((left ∙ least_is xs) k) ((right ∙ least_is ys) k))
    ∙ sym (least_is out
    ∙ ap (λ (x : Ops). least (marks_in x)) all
    ∙ ap least (marks_kept (union s t))
    ∙ least_least (marks_in (union s t))
    ∙ ap least (marks-union s t)
    ∙ least-union (marks_in s) (marks_in t))

pub joined_same : (a b : MarkSet) → ◌≡◌ {A = Result MarkSet Infallible} (Ok a) (Ok b) → a ≡ b
joined_same a b h = cc

-- the union with the set of one mark is an insertion
union_one : (ms : MarkSet) (m : Mark) → union ms (set.from_list (m ∷ [])) ≡ set.insert ms m
union_one ms m = same_set mark_total mark_exact _ _ (λ q.
    contains-union mark_total ms (set.from_list (m ∷ [])) q
    ∙ ap (λ b. contains ms q || b) (contains-from_list mark_total (m ∷ []) q)
    ∙ turned (contains ms q) (eq_by_cmp mark_cmp q m)
    ∙ sym (contains-insert mark_total ms m q))
  where
    turned : (a b : Bool) → (a || (b || false)) ≡ (b || a)
    turned true true = refl
    turned true false = refl
    turned false true = refl
    turned false false = refl

least-right : (s t : MarkSet) → least (union s (least t)) ≡ least (union s t)
least-right s t = least-union s (least t) ∙ ap (λ (k : MarkSet). least (union (least s) k)) (least_least t) ∙ sym (least-union s t)

pub marks_with_one : (xs out : List Op) (ms os : MarkSet) (o : Op) (m : Mark) → ms ≡ least_marks xs → marks_of_body o.id o.body ≡ m ∷ []
    → set.from_list {R = op_cmp} out ≡ kept (union (set.from_list {R = op_cmp} xs) (one o)) → os ≡ least (set.insert ms m) → os ≡ least_marks out
marks_with_one xs out ms os o m left is all put =
    marks_of_join xs (o ∷ []) out ms (least_marks (o ∷ [])) os left refl all
    (put
    ∙ ap least (sym (union_one ms m))
    ∙ sym (least-right ms (set.from_list (m ∷ [])))
    ∙ ap (λ (l : List Mark). merged_marks ms (least (set.from_list (l ++ [])))) (sym is))
