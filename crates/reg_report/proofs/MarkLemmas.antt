-- What is left of sorted marks in a walk of the entries, and what the marks on an entry tell.
use Rattle.std.proofs.Common.{◌≡◌, ◌≢◌, ℕ, ◌+◌, ◌<◌, ◌≤◌, Bool, true, false, not, ◌&&◌, ◌||◌, cond, List, [], ◌∷◌, ◌++◌, Option, Some, None, is_none, map, filter, length, get_or, take, drop, zero, suc, refl, sym, ap, ◌∙◌, subst, inl, inr, arith}
use Rattle.std.proofs.lemmas.Bool.{true≢false, false_from_ne_true, or_right}
use Rattle.std.proofs.lemmas.List.{take_all, drop_more}
use Rattle.std.proofs.lemmas.List.Folds.{list_any-append, list_any_at}
use Rattle.std.proofs.lemmas.List.Sorted.{ranks_by, list_any-IsPermutation}
use Rattle.std.proofs.Math.Bool.{or-false, and-false, and-true}
use Rattle.std.specs.List.{Contains, list_any, flat_map, prefix_len}
use Rattle.std.specs.List.Sorted.{IsSorted, IsPermutation}
use Rattle.std.specs.Cmp.{IsStrictWeakOrder, tied_itself, Equal-is}
use Rattle.std.specs.Option.{option_cmp}
use Rattle.std.specs.Ordering.{is_lt, is_eq, eq_by_cmp, ordering_reverse}
use Rattle.reg_op.specs.Set as set
use Rattle.reg_op.specs.Set.{contains-from_list, same_set, items-from_list}
use Rattle.reg_op.specs.Ids.{Id, id_cmp, is_same, is_before}
use Rattle.reg_op.specs.Lists.{has, AllAfter, ById}
use Rattle.reg_op.specs.Operations.{Op, Ops, op_cmp}
use Rattle.reg_op.specs.declared.operation.OpBody.{OpBody as Body}
use Rattle.reg_op.specs.declared.operation.OpBody.TheVariants.{Enter, Supersede, Retire}
use Rattle.reg_op.specs.Finite.{any}
use Rattle.reg_op.specs.Rows.{newer_of}
use Rattle.reg_op.specs.declared.status.Status.TheVariants.{Valid, Superseded, Retired}
use Rattle.reg_op.specs.Status.{enters, retires, supersedes, status, is_retirement, is_supersession}
use Rattle.reg_op.proofs.OpLemmas.{id_total, id_exact, op_total, op_exact, is_same_exact, is_before_chain, not_before_itself}
use Rattle.reg_op.proofs.FiniteLemmas.{list_any-or}
use Rattle.reg_op.proofs.RowLemmas.{contains-newer_of}
use Rattle.reg_state.specs.declared.mark.MarkTarget.{MarkTarget}
use Rattle.reg_state.specs.MarkSets.{target_cmp}
use Rattle.reg_state.specs.MarkLaws.{target_total}
use Rattle.reg_report.specs.Marks.{targets_in, targets_of, is_on, AreMarksOn}
use Rattle.reg_report.proofs.ConflictLemmas.{none_in, in_cons, in_head, in_tail}
use Rattle.reg_report.proofs.EntryLemmas.{is_after_first}
use Rattle.reg_report.proofs.WindowLemmas.{Ascends, ascends_by_first, any_filter, tied_is}

-- ---- sorted marks

-- no mark is on an earlier entry than one before it
abbrev pub Up : List MarkTarget → Type 0
Up [] = Unit {0}
Up (m ∷ ms) = ((x : MarkTarget) → Contains ms x → is_before x.entry m.entry ≡ false) × Up ms

up_from : (ms : List MarkTarget) → Ascends (λ (m : MarkTarget). m.entry) id_cmp id_total ms → Up ms
up_from [] up = tt
up_from (m ∷ ms) up = (
  λ x c. subst (λ (y : MarkTarget). is_before y.entry m.entry ≡ false) c.2 (up 0 (suc c.0) x (omega arith) (omega (arith, c.1))),
  up_from ms (λ i j d h l. up (suc i) (suc j) d (omega (arith, h)) (omega (arith, l))),
)

pub up_sorted : (ms : List MarkTarget) → IsSorted target_cmp ms → Up ms
up_sorted ms up = up_from ms (ascends_by_first (λ (m : MarkTarget). m.entry) id_cmp id_total (λ a b. option_cmp id_cmp a.by b.by) target_total ms up)

up_drop : (n : ℕ) (ms : List MarkTarget) → Up ms → Up (drop n ms)
up_drop zero ms up = up
up_drop (suc n) [] up = tt
up_drop (suc n) (m ∷ ms) up = up_drop n ms up.1

-- ---- a walk

abbrev on : Id → List MarkTarget → List MarkTarget
on e ms = filter (is_on e) ms

abbrev pub below : Id → MarkTarget → Bool
below e m = is_before m.entry e

abbrev pub from : Id → List MarkTarget → List MarkTarget
from e ms = drop (prefix_len (below e) ms) ms

before_chain : IsStrictWeakOrder is_before
before_chain = ranks_by id_total (λ (i : Id). i)

never_before : (e : Id) → is_before e e ≡ false
never_before e = false_from_ne_true _ (λ h. not_before_itself e h)

-- a mark before an entry is on no entry from there on
other : (e k : Id) (m : MarkTarget) → is_before k e ≡ false → below e m ≡ true → is_on k m ≡ false
other e k m h b = false_from_ne_true _ (λ same. true≢false (sym b ∙ ap (λ i. is_before i e) (sym (is_same_exact k m.entry same)) ∙ h))

drop_one : {X : Type 0} (n : ℕ) (x : X) (xs : List X) → drop (1 + n) (x ∷ xs) ≡ drop n xs
drop_one n x xs = let e : 1 + n ≡ suc n = omega arith in ap (λ k. drop k (x ∷ xs)) e

take_one : {X : Type 0} (n : ℕ) (x : X) (xs : List X) → take (1 + n) (x ∷ xs) ≡ x ∷ take n xs
take_one n x xs = let e : 1 + n ≡ suc n = omega arith in ap (λ k. take k (x ∷ xs)) e

-- what is skipped is on no entry from there on
skip_keeps : (e k : Id) (ms : List MarkTarget) → is_before k e ≡ false → on k (from e ms) ≡ on k ms
skip_keeps e k [] h = refl
skip_keeps e k (m ∷ ms) h =
    elim (below e m) as (λ b. below e m ≡ b → on k (drop (cond b (1 + prefix_len (below e) ms) 0) (m ∷ ms)) ≡ on k (m ∷ ms)) [
      | true ↦ λ b. ap (on k) (drop_one (prefix_len (below e) ms) m ms) ∙ skip_keeps e k ms h ∙ sym (ap (λ t. cond t (m ∷ on k ms) (on k ms)) (other e k m h b))
      | false ↦ λ b. refl
    ] refl

-- no mark is on an earlier entry
abbrev NoneBelow : Id → List MarkTarget → Type 0
NoneBelow e ms = (x : MarkTarget) → Contains ms x → below e x ≡ false

skipped : (e : Id) (ms : List MarkTarget) → Up ms → NoneBelow e (from e ms)
skipped e [] up = λ x c. absurd (none_in x c)
skipped e (m ∷ ms) up =
    elim (below e m) as (λ b. below e m ≡ b → NoneBelow e (drop (cond b (1 + prefix_len (below e) ms) 0) (m ∷ ms))) [
      | true ↦ λ b. subst (NoneBelow e) (sym (drop_one (prefix_len (below e) ms) m ms)) (skipped e ms up.1)
      | false ↦ λ b x c. elim (in_cons x m ms c) [
        | inl is ↦ subst (λ (y : MarkTarget). below e y ≡ false) (sym is) b
        | inr later ↦ before_chain.chain x.entry m.entry e (up.0 x later) b
      ]
    ] refl

none_here : (p : MarkTarget → Bool) (ms : List MarkTarget) → ((x : MarkTarget) → Contains ms x → p x ≡ false) → filter p ms ≡ []
none_here p [] fails = refl
none_here p (m ∷ ms) fails = ap (λ b. cond b (m ∷ filter p ms) (filter p ms)) (fails m (in_head m ms)) ∙ none_here p ms (λ x c. fails x (in_tail x m ms c))

-- the leading marks on an entry are all those on it
leading_are : (e : Id) (ms : List MarkTarget) → Up ms → NoneBelow e ms → take (prefix_len (is_on e) ms) ms ≡ on e ms
leading_are e [] up none = refl
leading_are e (m ∷ ms) up none =
    elim (is_on e m) as (λ b. is_on e m ≡ b → take (cond b (1 + prefix_len (is_on e) ms) 0) (m ∷ ms) ≡ cond b (m ∷ on e ms) (on e ms)) [
      | true ↦ λ b. take_one (prefix_len (is_on e) ms) m ms ∙ ap (λ l. m ∷ l) (leading_are e ms up.1 (λ x c. none x (in_tail x m ms c)))
      | false ↦ λ b. sym (none_here (is_on e) ms (λ x c. false_from_ne_true _ (λ same. true≢false (sym (tied m (none m (in_head m ms)) (ap (λ i. is_before i m.entry) (is_same_exact e x.entry same) ∙ up.0 x c)) ∙ b))))
    ] refl
  where
    tied : (y : MarkTarget) → is_before y.entry e ≡ false → is_before e y.entry ≡ false → is_on e y ≡ true
    tied y h k = tied_is id_cmp id_total e y.entry ∙ (λ j. not (h j) && not (k j))

-- the marks on an entry that these operations set
abbrev AreSet : List Op → Id → List MarkTarget → Type 0
AreSet os e own = (t : MarkTarget → Bool) → list_any t own ≡ list_any (λ m. is_on e m && t m) (targets_of os)

set_in_all : (e : Id) (all : List MarkTarget) (os : List Op) → ((t : MarkTarget → Bool) → list_any t all ≡ list_any t (targets_of os)) → AreSet os e (on e all)
set_in_all e all os told t = any_filter (is_on e) t all ∙ told (λ m. is_on e m && t m)

-- if the rest has all marks on an entry, those that lead from the entry on are the marks on it
marks_on : (e : Id) (rest : List MarkTarget) (os : List Op) → Up rest → AreSet os e (on e rest) → (s : Ops) → os ≡ set.items s → AreMarksOn s e (take (prefix_len (is_on e) (from e rest)) (from e rest))
marks_on e rest os up left s is t =
    ap (list_any t) (leading_are e (from e rest) (up_drop (prefix_len (below e) rest) rest up) (skipped e rest up) ∙ skip_keeps e e rest (never_before e))
    ∙ left t ∙ ap (λ l. list_any (λ m. is_on e m && t m) (targets_of l)) is

-- so it is with all marks
pub marks_in_all : (e : Id) (all : List MarkTarget) (os : List Op) → IsSorted target_cmp all → ((t : MarkTarget → Bool) → list_any t all ≡ list_any t (targets_of os)) → (s : Ops) → os ≡ set.items s
    → AreMarksOn s e (take (prefix_len (is_on e) (from e all)) (from e all))
marks_in_all e all os up told = marks_on e all os (up_sorted all up) (set_in_all e all os told)

-- ---- the walk of the operations

-- the rest has all marks on the entries of the operations from the i-th on
pub record IsLeft (os : List Op) (i : ℕ) (rest : List MarkTarget) : Type 0 where
  pub up : Up rest
  pub left : (o : Op) → has (drop i os) o ≡ true → AreSet os o.id (on o.id rest)

pub all_left : (all : List MarkTarget) (os : List Op) → IsSorted target_cmp all → ((t : MarkTarget → Bool) → list_any t all ≡ list_any t (targets_of os)) → IsLeft os 0 all
all_left all os up told = record { up = up_sorted all up; left = λ o h. set_in_all o.id all os told }

has_here : (o : Op) (os : List Op) → has (o ∷ os) o ≡ true
has_here o os = ap (λ b. b || has os o) (ap is_eq (tied_itself op_total o))

by_id_drop : (n : ℕ) (os : List Op) → ById os → ById (drop n os)
by_id_drop zero os up = up
by_id_drop (suc n) [] up = tt
by_id_drop (suc n) (o ∷ os) up = by_id_drop n os up.1

never_after : (a b : Id) → is_before a b ≡ true → is_before b a ≡ false
never_after a b h = false_from_ne_true _ (λ k. not_before_itself a (is_before_chain a b a h k))

module _ (rest : List MarkTarget) (os : List Op) (i : ℕ) (o : Op) (h : i < length os) (at : o ≡ get_or os i o) (walked : IsLeft os i rest) where
  next_is : drop i os ≡ o ∷ drop (i + 1) os
  next_is = drop_more os i o h ∙ ap (λ p. p ∷ drop (i + 1) os) (sym at)

  pub left_on : ById os → IsLeft os (i + 1) (from o.id rest)
  left_on by_id = record {
    up = up_drop (prefix_len (below o.id) rest) rest walked.up;
    left = λ p later t.
        let after : ById (o ∷ drop (i + 1) os) = subst ById next_is (by_id_drop i os by_id) in
        ap (list_any t) (skip_keeps o.id p.id rest (never_after o.id p.id (is_after_first o.id (drop (i + 1) os) p after.0 later)))
        ∙ walked.left p (subst (λ l. has l p ≡ true) (sym next_is) (or_right (eq_by_cmp op_cmp p o) _ later)) t;
  }

  -- the leading marks of the rest are those on the operation's entry
  pub own_marks : (s : Ops) → os ≡ set.items s → AreMarksOn s o.id (take (prefix_len (is_on o.id) (from o.id rest)) (from o.id rest))
  own_marks = marks_on o.id rest os walked.up (walked.left o (subst (λ l. has l o ≡ true) (sym next_is) (has_here o (drop (i + 1) os))))

-- ---- the marks of operations

pub sorted_tell : (os : List Op) (k : ℕ) (before after : List MarkTarget) → length os ≤ k → before ≡ targets_of (take k os) → IsPermutation before after
    → (t : MarkTarget → Bool) → list_any t after ≡ list_any t (targets_of os)
sorted_tell os k before after h e p t = sym (list_any-IsPermutation t before after p) ∙ ap (list_any t) (e ∙ ap targets_of (take_all k os h))

tells : (t : MarkTarget → Bool) (g : Body → Bool) → ((b : Body) → list_any t (targets_in b) ≡ g b) → (os : List Op) → list_any t (targets_of os) ≡ list_any (λ (o : Op). g o.body) os
tells t g each [] = refl
tells t g each (o ∷ os) = list_any-append t (targets_in o.body) (targets_of os) ∙ (λ k. each o.body k || tells t g each os k)

retires_at : (e : Id) (b : Body) → list_any (λ m. is_on e m && is_none m.by) (targets_in b) ≡ is_retirement e b
retires_at e (Enter text) = refl
retires_at e (Supersede old newer) = or-false _ ∙ and-false _
retires_at e (Retire entry) = or-false _ ∙ and-true _

touches_at : (e : Id) (b : Body) → list_any (λ m. is_on e m && true) (targets_in b) ≡ (is_retirement e b || is_supersession e (λ n. true) b)
touches_at e (Enter text) = refl
touches_at e (Supersede old newer) = or-false _
touches_at e (Retire entry) = ap (λ b. b || false) (and-true _)

-- the mark is a supersession by n
abbrev names : Id → Option Id → Bool
names n None = false
names n (Some o) = is_same n o

supersedes_at : (e n : Id) (b : Body) → list_any (λ m. is_on e m && names n m.by) (targets_in b) ≡ is_supersession e (is_same n) b
supersedes_at e n (Enter text) = refl
supersedes_at e n (Supersede old newer) = or-false _
supersedes_at e n (Retire entry) = or-false _ ∙ and-false _

-- ---- the status

module _ (s : Ops) (e : Id) (own : List MarkTarget) (told : AreMarksOn s e own) where
  retires_told : list_any (λ m. is_none m.by) own ≡ retires s e
  retires_told = told (λ m. is_none m.by) ∙ tells (λ m. is_on e m && is_none m.by) (is_retirement e) (retires_at e) (set.items s)

  touches_told : list_any (λ m. true) own ≡ (retires s e || supersedes s e)
  touches_told = told (λ m. true) ∙ tells (λ m. is_on e m && true) (λ b. is_retirement e b || is_supersession e (λ n. true) b) (touches_at e) (set.items s)
      ∙ list_any-or (λ (o : Op). is_retirement e o.body) (λ (o : Op). is_supersession e (λ n. true) o.body) (set.items s)

  newer_told : (n : Id) → list_any (λ m. names n m.by) own ≡ any (λ (o : Op). is_supersession e (is_same n) o.body) s
  newer_told n = told (λ m. names n m.by) ∙ tells (λ m. is_on e m && names n m.by) (is_supersession e (is_same n)) (supersedes_at e n) (set.items s)

  pub retired_is : enters s e ≡ true → list_any (λ m. is_none m.by) own ≡ true → status s e ≡ Some Retired
  retired_is there h = λ k. cond (there k) (Some (cond ((sym retires_told ∙ h) k) Retired (cond (supersedes s e) Superseded Valid))) None

  pub valid_is : enters s e ≡ true → own ≡ [] → status s e ≡ Some Valid
  valid_is there h =
      let r : retires s e ≡ false = sym retires_told ∙ ap (list_any (λ m. is_none m.by)) h in
      let u : supersedes s e ≡ false = (λ k. sym r k || supersedes s e) ∙ sym touches_told ∙ ap (list_any (λ m. true)) h in
      λ k. cond (there k) (Some (cond (r k) Retired (cond (u k) Superseded Valid))) None

  pub superseded_is : enters s e ≡ true → list_any (λ m. is_none m.by) own ≡ false → own ≢ [] → status s e ≡ Some Superseded
  superseded_is there h some =
      let r : retires s e ≡ false = sym retires_told ∙ h in
      let u : supersedes s e ≡ true = (λ k. sym r k || supersedes s e) ∙ sym touches_told ∙ any_mark own some in
      λ k. cond (there k) (Some (cond (r k) Retired (cond (u k) Superseded Valid))) None
    where
      any_mark : (ms : List MarkTarget) → ms ≢ [] → list_any (λ m. true) ms ≡ true
      any_mark [] h = absurd (h refl)
      any_mark (m ∷ ms) h = refl

  -- ---- the newer entries

  pub none_newer : (m : MarkTarget) (i : ℕ) → i < length own → m ≡ get_or own i m → m.by ≡ None → set.items (newer_of s e) ≡ []
  none_newer m i h at none =
      let gone : retires s e ≡ true = sym retires_told ∙ list_any_at (λ x. is_none x.by) own i m h (ap (λ (x : MarkTarget). is_none x.by) (sym at) ∙ ap is_none none) in
      ap set.items (sym (same_set id_total id_exact (set.from_list []) (newer_of s e) (λ n.
      contains-from_list id_total [] n ∙ sym (contains-newer_of s e n ∙ (λ k. not (gone k) && any (λ (o : Op). is_supersession e (is_same n) o.body) s)))))
      ∙ items-from_list id_total [] tt

  pub newer_are : (newer : List Id) (k : ℕ) → length own ≤ k → map (λ n. Some n) newer ≡ map (λ (m : MarkTarget). m.by) (take k own) → set.items (set.from_list {R = id_cmp} newer) ≡ set.items (newer_of s e)
  newer_are newer k h is =
      let by : map (λ n. Some n) newer ≡ map (λ (m : MarkTarget). m.by) own = is ∙ ap (map (λ (m : MarkTarget). m.by)) (take_all k own h) in
      let stands : retires s e ≡ false = sym retires_told ∙ sym (any_map (λ (m : MarkTarget). m.by) is_none own) ∙ ap (list_any is_none) (sym by) ∙ none_retires newer in
      ap set.items (same_set id_total id_exact (set.from_list newer) (newer_of s e) (λ n.
      contains-from_list id_total newer n ∙ sym (any_map (λ o. Some o) (names n) newer) ∙ ap (list_any (names n)) by ∙ any_map (λ (m : MarkTarget). m.by) (names n) own ∙ newer_told n
      ∙ sym (contains-newer_of s e n ∙ (λ j. not (stands j) && any (λ (o : Op). is_supersession e (is_same n) o.body) s))))
    where
      any_map : {X Y : Type 0} (f : X → Y) (t : Y → Bool) (xs : List X) → list_any t (map f xs) ≡ list_any (λ x. t (f x)) xs
      any_map f t [] = refl
      any_map f t (x ∷ xs) = ap (λ b. t (f x) || b) (any_map f t xs)

      none_retires : (ns : List Id) → list_any is_none (map (λ n. Some n) ns) ≡ false
      none_retires [] = refl
      none_retires (n ∷ ns) = none_retires ns
