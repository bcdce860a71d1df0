-- The marks that operations set, and what they replace.
use Rattle.std.proofs.Common.{◌≡◌, ℕ, Bool, true, false, ◌&&◌, ◌<◌, List, [], ◌∷◌, ◌++◌, append-nil, arith, length, refl, sym, ap, ◌∙◌, Option, None, Some, ◌||◌}
use Rattle.std.specs.Cmp.{tied_then}
use Rattle.std.specs.Ordering.{is_eq, ordering_then}
use Rattle.reg_op.specs.Set as set
use Rattle.reg_op.specs.Ids.{Id}
use Rattle.reg_op.specs.Finite.{any}
use Rattle.reg_op.specs.Operations.{Op, op_cmp, kept}
use Rattle.std.specs.List.{list_any}
use Rattle.std.specs.Option.{option_cmp}
use Rattle.reg_op.specs.declared.operation.OpBody.TheVariants.{Enter, Supersede, Retire}
use Rattle.reg_op.specs.Ids.{id_cmp, is_same, is_before}
use Rattle.reg_op.specs.Operations.{replaces, replaces_body}
use Rattle.reg_op.proofs.FiniteLemmas.{list_any-or}
use Rattle.std.proofs.lemmas.List.Folds.{list_any-append}
use Rattle.std.proofs.Math.Bool.{and-true, and_assoc, or-false}
use Rattle.reg_op.specs.declared.operation.OpBody.{OpBody as Body}
use Rattle.reg_op.specs.Status.{is_retirement, is_supersession}
use Rattle.reg_state.specs.declared.mark.Mark.{Mark}
use Rattle.reg_state.specs.MarkSets.{MarkSet, is_at, lessens}
use Rattle.reg_state.proofs.OrderLemmas.{any-from_list, any-least, same_back}
use Rattle.reg_state.proofs.MarkJoin.{own_marks}
use Rattle.reg_state.proofs.CoverLemmas.{then_less}
use Rattle.reg_state.proofs.InsertLemmas.{then_equal, then_greater}
use Rattle.reg_state.specs.Marks.{marks_of, marks_of_body, least_marks, target_body, op_of}

pub marks_whole : (ms : List Mark) (rest : List Op) (all : List Mark) → length rest < 1 → ms ++ marks_of rest ≡ all → ms ≡ all
marks_whole ms [] all e h = sym (append-nil ms) ∙ h
marks_whole ms (x ∷ xs) all e h = absurd (omega arith)

-- ---- the operations that a mark replaces

same_any : (f g : Mark → Bool) → ((m : Mark) → f m ≡ g m) → (ms : List Mark) → list_any f ms ≡ list_any g ms
same_any f g h ms = λ i. list_any (λ m. h m i) ms

at_supersede : (e old newer : Id) (by : Option Id) (before : Bool)
    → (is_eq (ordering_then (id_cmp e old) (option_cmp id_cmp by None)) || (is_eq (ordering_then (id_cmp e old) (option_cmp id_cmp by (Some newer))) && before)) ≡ replaces_body before (target_body e by) (Supersede old newer)
at_supersede e old newer None before =
    (λ i. then_equal (id_cmp e old) i || (then_less (id_cmp e old) i && before)) ∙ or-false _
at_supersede e old newer (Some n) before =
    (λ i. then_greater (id_cmp e old) i || (sym (tied_then (id_cmp e old) (id_cmp n newer)) i && before)) ∙ and_assoc (is_same e old) (is_same n newer) before

at_enter : (e : Id) (text : List ℕ) (by : Option Id) (before : Bool) → false ≡ replaces_body before (target_body e by) (Enter text)
at_enter e text None before = refl
at_enter e text (Some n) before = refl

none_any : (ms : List Mark) → list_any (λ (m : Mark). false) ms ≡ false
none_any [] = refl
none_any (m ∷ ms) = none_any ms

pub replaced_enter : (ms : List Mark) (i : Id) (text note : List ℕ) → false ≡ list_any (λ m. replaces (op_of m) (record { id = i; body = Enter text; note = note })) ms
replaced_enter ms i text note = sym (none_any ms) ∙ same_any _ _ (λ m. at_enter m.target.entry text m.target.by (is_before m.id i)) ms

pub replaced_supersede : (ms : List Mark) (i old newer : Id) (note : List ℕ)
    → (list_any (λ m. is_at (record { entry = old; by = None }) m) ms || list_any (λ m. is_at (record { entry = old; by = Some newer }) m && is_before m.id i) ms) ≡ list_any (λ m. replaces (op_of m) (record { id = i; body = Supersede old newer; note = note })) ms
replaced_supersede ms i old newer note =
    sym (list_any-or (λ (m : Mark). is_at (record { entry = old; by = None }) m) (λ (m : Mark). is_at (record { entry = old; by = Some newer }) m && is_before m.id i) ms)
    ∙ same_any _ _ (λ m. at_supersede m.target.entry old newer m.target.by (is_before m.id i)) ms

-- ---- the marks of an entry

-- if a test on the marks of one operation agrees with a test on the operation, they agree on lists
through : (t : Mark → Bool) (u : Op → Bool) → ((i : Id) (b : Body) (n : List ℕ) → list_any t (marks_of_body i b) ≡ u (record { id = i; body = b; note = n })) → (os : List Op) → list_any t (marks_of os) ≡ list_any u os
through t u each [] = refl
through t u each (o ∷ os) = list_any-append t (marks_of_body o.id o.body) (marks_of os) ∙ (λ k. each o.id o.body o.note k || through t u each os k)

marks_retire : (e : Id) (os : List Op) → list_any (λ m. is_at (record { entry = e; by = None }) m) (marks_of os) ≡ list_any (λ o. is_retirement e o.body) os
marks_retire e os = through _ (λ o. is_retirement e o.body) (λ i b n. each i b) os
  where
    each : (i : Id) (b : Body) → list_any (λ m. is_at (record { entry = e; by = None }) m) (marks_of_body i b) ≡ is_retirement e b
    each i (Enter text) = refl
    each i (Supersede old newer) = or-false _ ∙ then_greater (id_cmp old e)
    each i (Retire entry) = or-false _ ∙ then_equal (id_cmp entry e) ∙ same_back entry e

marks_supersede : (e n : Id) (os : List Op) → list_any (λ m. is_at (record { entry = e; by = Some n }) m) (marks_of os) ≡ list_any (λ o. is_supersession e (is_same n) o.body) os
marks_supersede e n os = through _ (λ o. is_supersession e (is_same n) o.body) (λ i b m. each i b) os
  where
    each : (i : Id) (b : Body) → list_any (λ m. is_at (record { entry = e; by = Some n }) m) (marks_of_body i b) ≡ is_supersession e (is_same n) b
    each i (Enter text) = refl
    each i (Supersede old newer) = or-false _ ∙ sym (tied_then (id_cmp old e) (id_cmp newer n)) ∙ (λ k. same_back old e k && same_back newer n k)
    each i (Retire entry) = or-false _ ∙ then_less (id_cmp entry e)

marks_touch : (e : Id) (os : List Op)
    → list_any (λ m. is_same e m.target.entry) (marks_of os) ≡ (list_any (λ o. is_retirement e o.body) os || list_any (λ o. is_supersession e (λ n. true) o.body) os)
marks_touch e os =
    through _ (λ o. is_retirement e o.body || is_supersession e (λ n. true) o.body) (λ i b n. each i b) os
    ∙ list_any-or (λ (o : Op). is_retirement e o.body) (λ o. is_supersession e (λ n. true) o.body) os
  where
    each : (i : Id) (b : Body) → list_any (λ m. is_same e m.target.entry) (marks_of_body i b) ≡ (is_retirement e b || is_supersession e (λ n. true) b)
    each i (Enter text) = refl
    each i (Supersede old newer) = or-false _ ∙ sym (and-true (is_same e old))
    each i (Retire entry) = refl

-- ---- tests on the least marks

pub any_marks : (t : Mark → Bool) → ((p m : Mark) → lessens p m ≡ true → t m ≡ true → t p ≡ true) → (os : List Op) (ms : MarkSet) → ms ≡ least_marks os → any t ms ≡ list_any t (marks_of os)
any_marks t falls os ms e = ap (any t) e ∙ any-least t falls (set.from_list (marks_of os)) ∙ any-from_list t (marks_of os)

-- if no operation of a list replaces another, some least mark passes a test if and only if some mark does
any_own : (t : Mark → Bool) (os : List Op) (ms : MarkSet) → ms ≡ least_marks os → kept (set.from_list {R = op_cmp} os) ≡ set.from_list os → any t ms ≡ list_any t (marks_of os)
any_own t os ms e k = ap (any t) (e ∙ own_marks os k) ∙ any-from_list t (marks_of os)

pub any_retired : (e : Id) (os : List Op) (ms : MarkSet) → ms ≡ least_marks os → kept (set.from_list {R = op_cmp} os) ≡ set.from_list os
    → any (λ m. is_at (record { entry = e; by = None }) m) ms ≡ list_any (λ o. is_retirement e o.body) os
any_retired e os ms is k = any_own (λ m. is_at (record { entry = e; by = None }) m) os ms is k ∙ marks_retire e os

pub any_touched : (e : Id) (os : List Op) (ms : MarkSet) → ms ≡ least_marks os → kept (set.from_list {R = op_cmp} os) ≡ set.from_list os
    → any (λ m. is_same e m.target.entry) ms ≡ (list_any (λ o. is_retirement e o.body) os || list_any (λ o. is_supersession e (λ n. true) o.body) os)
any_touched e os ms is k = any_own (λ m. is_same e m.target.entry) os ms is k ∙ marks_touch e os

pub any_superseded : (e n : Id) (os : List Op) (ms : MarkSet) → ms ≡ least_marks os → kept (set.from_list {R = op_cmp} os) ≡ set.from_list os
    → any (λ m. is_at (record { entry = e; by = Some n }) m) ms ≡ list_any (λ o. is_supersession e (is_same n) o.body) os
any_superseded e n os ms is k = any_own (λ m. is_at (record { entry = e; by = Some n }) m) os ms is k ∙ marks_supersede e n os
