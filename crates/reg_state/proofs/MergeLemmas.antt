-- The merge of two lists of operations that are ordered by id.
use Rattle.std.proofs.Common.{◌≡◌, ℕ, Bool, true, false, not, ◌&&◌, ◌||◌, cond, List, [], ◌∷◌, ◌++◌, append_assoc, append-nil, length, refl, sym, ap, ◌∙◌, subst, inl, inr, ◌⊎◌, Some, None, arith, zero, suc, get_or, ◌<◌, ◌≤◌}
use Rattle.std.proofs.lemmas.Bool.{true≢false, and_from, and_parts, or_left, or_right, false_from_ne_true}
use Rattle.std.proofs.lemmas.List.Folds.{list_any-append}
use Rattle.std.proofs.Math.Bool.{and-false, or-false, or_comm}
use Rattle.std.specs.List.{list_any, filter, find}
use Rattle.std.specs.Option.{option_map}
use Rattle.std.specs.Cmp.{Equal-is, tied_itself}
use Rattle.std.specs.Ordering.{is_lt, is_eq, eq_by_cmp, ordering_reverse}
use Rattle.std.specs.declared.cmp.Ordering.{Ordering}
use Rattle.std.specs.declared.cmp.Ordering.TheVariants.{Less, Equal, Greater}
use Rattle.reg_op.specs.Ids.{Id}
use Rattle.reg_op.specs.Operations.{Op}
use Rattle.reg_op.specs.Ids.{id_cmp, is_same, is_before}
use Rattle.reg_op.specs.Operations.{op_cmp, clashes}
use Rattle.reg_op.proofs.OpLemmas.{id_total, op_total, op_exact, is_same_exact}
use Rattle.reg_state.specs.MarkSets.{MarkSet}
use Rattle.reg_op.specs.Lists.{has, AllAfter, ById}
use Rattle.reg_state.specs.Merge.{lasts, stays, is_marked_off, Agree, clash_in, IsMerging}

before_chain : (a b c : Id) → is_before a b ≡ true → is_before b c ≡ true → is_before a c ≡ true
before_chain a b c h k = ap is_lt (id_total.trans a b c (less _ h) (less _ k))
  where
    less : (r : Ordering) → is_lt r ≡ true → r ≡ Less
    less Less h = refl
    less Equal h = absurd (true≢false (sym h))
    less Greater h = absurd (true≢false (sym h))

before_not_same : (a b : Id) → is_before a b ≡ true → is_same a b ≡ false
before_not_same a b h = from (id_cmp a b) h
  where
    from : (r : Ordering) → is_lt r ≡ true → is_eq r ≡ false
    from Less h = refl
    from Equal h = absurd (true≢false (sym h))
    from Greater h = refl

before_not_back : (a b : Id) → is_before a b ≡ true → is_same b a ≡ false
before_not_back a b h = from (id_cmp a b) (id_cmp b a) (id_total.antisymm b a) h
  where
    from : (r s : Ordering) → s ≡ ordering_reverse r → is_lt r ≡ true → is_eq s ≡ false
    from Less s e h = ap is_eq e
    from Equal s e h = absurd (true≢false (sym h))
    from Greater s e h = absurd (true≢false (sym h))

-- ---- the least clash of two lists, and of their tails

no_clash_after : (a : Op) (rights : List Op) → AllAfter a.id rights → list_any (λ p. clashes p a) rights ≡ false
no_clash_after a [] h = refl
no_clash_after a (p ∷ ps) h = λ k. (before_not_back a.id p.id h.0 k && not (is_eq (op_cmp p a))) || no_clash_after a ps h.1 k

find_right : (lefts bs : List Op) (b : Op) → AllAfter b.id lefts → find (λ o. list_any (λ p. clashes p o) (b ∷ bs)) lefts ≡ find (λ o. list_any (λ p. clashes p o) bs) lefts
find_right [] bs b h = refl
find_right (o ∷ os) bs b h =
    λ k. cond ((before_not_same b.id o.id h.0 k && not (is_eq (op_cmp b o))) || list_any (λ p. clashes p o) bs) (Some o) (find_right os bs b h.1 k)

skip_right : (lefts bs : List Op) (b : Op) → AllAfter b.id lefts → clash_in lefts (b ∷ bs) ≡ clash_in lefts bs
skip_right lefts bs b h = ap (option_map (λ o. o.id)) (find_right lefts bs b h)

skip_left : (more rights : List Op) (a : Op) → list_any (λ p. clashes p a) rights ≡ false → clash_in (a ∷ more) rights ≡ clash_in more rights
skip_left more rights a h = λ k. option_map (λ o. o.id) (cond (h k) (Some a) (find (λ o. list_any (λ p. clashes p o) rights) more))

AllAfter-later : (i j : Id) (os : List Op) → is_before i j ≡ true → AllAfter j os → AllAfter i os
AllAfter-later i j [] h k = tt
AllAfter-later i j (o ∷ os) h k = (before_chain i j o.id h k.0, AllAfter-later i j os h k.1)

-- an id that is before the first of an ordered list is before all of the list
pub all_after : (i : Id) (b : Op) (bs : List Op) → is_before i b.id ≡ true → ById (b ∷ bs) → AllAfter i (b ∷ bs)
all_after i b bs h k = (h, AllAfter-later i b.id bs h k.0)

pub clash_left : (lefts rights more bs : List Op) (a b : Op) → lefts ≡ a ∷ more → rights ≡ b ∷ bs → ById rights → is_before a.id b.id ≡ true → clash_in more rights ≡ clash_in lefts rights
clash_left lefts rights more bs a b l r is h =
    sym (ap (λ xs. clash_in xs rights) l ∙ skip_left more rights a (no_clash_after a rights (subst (AllAfter a.id) (sym r) (all_after a.id b bs h (subst ById r is)))))

pub clash_right : (lefts rights more bs : List Op) (a b : Op) → lefts ≡ a ∷ more → rights ≡ b ∷ bs → ById lefts → is_before b.id a.id ≡ true → clash_in lefts bs ≡ clash_in lefts rights
clash_right lefts rights more bs a b l r is h =
    sym (ap (clash_in lefts) r ∙ skip_right lefts bs b (subst (AllAfter b.id) (sym l) (all_after b.id a more h (subst ById l is))))

pub clash_both : (lefts rights more bs : List Op) (a b : Op) → lefts ≡ a ∷ more → rights ≡ b ∷ bs → ById lefts → ById rights → a.id ≡ b.id → clashes b a ≡ false → clash_in more bs ≡ clash_in lefts rights
clash_both lefts rights more bs a b l r is js e h =
    let after_a : AllAfter a.id bs = subst (λ i. AllAfter i bs) (sym e) (subst ById r js).0 in
    let after_b : AllAfter b.id more = subst (λ i. AllAfter i more) e (subst ById l is).0 in
    let none : list_any (λ p. clashes p a) (b ∷ bs) ≡ false = λ k. h k || no_clash_after a bs after_a k in
    sym ((λ k. clash_in (l k) (r k)) ∙ skip_left more (b ∷ bs) a none ∙ skip_right more bs b after_b)

pub clash_end : (lefts rights : List Op) → length rights ≡ 0 → None ≡ clash_in lefts rights
clash_end [] rights h = refl
clash_end (a ∷ more) [] h = clash_end more [] h
clash_end (a ∷ more) (b ∷ bs) h = absurd (omega arith)

pub clash_start : (lefts rights : List Op) → length lefts ≡ 0 → None ≡ clash_in lefts rights
clash_start [] rights h = refl
clash_start (a ∷ more) rights h = absurd (omega arith)

pub ById-rest : (xs more : List Op) (a : Op) → xs ≡ a ∷ more → ById xs → ById more
ById-rest xs more a e h = (subst ById e h).1

-- ---- the steps of the merge

AllAfter-insert : (i : Id) (out more rights : List Op) (a : Op) → AllAfter i (out ++ a ∷ more) → AllAfter i (out ++ rights) → AllAfter i (out ++ a ∷ rights)
AllAfter-insert i [] more rights a h k = (h.0, k)
AllAfter-insert i (x ∷ out) more rights a h k = (h.0, AllAfter-insert i out more rights a h.1 k.1)

ById-insert : (out more rights : List Op) (a : Op) → ById (out ++ a ∷ more) → ById (out ++ rights) → AllAfter a.id rights → ById (out ++ a ∷ rights)
ById-insert [] more rights a h k r = (r, k)
ById-insert (x ∷ out) more rights a h k r = (AllAfter-insert x.id out more rights a h.0 k.0, ById-insert out more rights a h.1 k.1 r)

AllAfter-drop : (i : Id) (out more : List Op) (a : Op) → AllAfter i (out ++ a ∷ more) → AllAfter i (out ++ more)
AllAfter-drop i [] more a h = h.1
AllAfter-drop i (x ∷ out) more a h = (h.0, AllAfter-drop i out more a h.1)

ById-drop : (out more : List Op) (a : Op) → ById (out ++ a ∷ more) → ById (out ++ more)
ById-drop [] more a h = h.1
ById-drop (x ∷ out) more a h = (AllAfter-drop x.id out more a h.0, ById-drop out more a h.1)

-- what the head of a list adds to the output: itself, or nothing
abbrev out_of : Bool → Op → List Op
out_of b a = cond b (a ∷ []) []

push_own : (b : Bool) (out more : List Op) (a : Op) → ById (out ++ a ∷ more) → ById ((out ++ out_of b a) ++ more)
push_own true out more a h = subst ById (sym (append_assoc out (a ∷ []) more)) h
push_own false out more a h = subst (λ xs. ById (xs ++ more)) (sym (append-nil out)) (ById-drop out more a h)

push_other : (b : Bool) (out more rights : List Op) (a : Op) → ById (out ++ a ∷ more) → ById (out ++ rights) → AllAfter a.id rights → ById ((out ++ out_of b a) ++ rights)
push_other true out more rights a h k r = subst ById (sym (append_assoc out (a ∷ []) rights)) (ById-insert out more rights a h k r)
push_other false out more rights a h k r = subst (λ xs. ById (xs ++ rights)) (sym (append-nil out)) k

moved : (o e k m r : Bool) → ((o || (e && k)) || (k && (m || r))) ≡ (o || (k && ((e || m) || r)))
moved true e k m r = refl
moved false true true m r = refl
moved false true false m r = refl
moved false false k m r = refl

moved_both : (o e k m r : Bool) → ((o || (e && k)) || (k && (m || r))) ≡ (o || (k && ((e || m) || (e || r))))
moved_both true e k m r = refl
moved_both false true true m r = refl
moved_both false true false m r = refl
moved_both false false k m r = refl

eq_of : (q a : Op) → eq_by_cmp op_cmp q a ≡ true → q ≡ a
eq_of q a h = op_exact q a ((Equal-is (op_cmp q a)).0 h)

has_out_of : (keep : Op → Bool) (q a : Op) → has (out_of (keep a) a) q ≡ (eq_by_cmp op_cmp q a && keep q)
has_out_of keep q a =
    elim (eq_by_cmp op_cmp q a) as (λ e. eq_by_cmp op_cmp q a ≡ e → has (out_of (keep a) a) q ≡ (e && keep q)) [
      | true ↦ λ e. from (keep a) true e ∙ ap keep (sym (eq_of q a e))
      | false ↦ λ e. from (keep a) false e
    ] refl
  where
    from : (b e : Bool) → eq_by_cmp op_cmp q a ≡ e → has (out_of b a) q ≡ (e && b)
    from true true e = λ k. e k || false
    from true false e = λ k. e k || false
    from false true e = refl
    from false false e = refl

has_pushed : (keep : Op → Bool) (out : List Op) (a q : Op) → has (out ++ out_of (keep a) a) q ≡ (has out q || (eq_by_cmp op_cmp q a && keep q))
has_pushed keep out a q = list_any-append (eq_by_cmp op_cmp q) out (out_of (keep a) a) ∙ ap (λ b. has out q || b) (has_out_of keep q a)

pub took_left : (keep : Op → Bool) (out new lefts rights left right more : List Op) (a : Op) → IsMerging keep out lefts rights left right → lefts ≡ a ∷ more → AllAfter a.id rights
    → new ≡ out ++ filter keep (a ∷ []) → IsMerging keep new more rights left right
took_left keep out new lefts rights left right more a is l after e =
    let is_left : ById (out ++ a ∷ more) = subst (λ xs. ById (out ++ xs)) l is.left_next in
    record {
      left_next = subst (λ xs. ById (xs ++ more)) (sym e) (push_own (keep a) out more a is_left);
      right_next = subst (λ xs. ById (xs ++ rights)) (sym e) (push_other (keep a) out more rights a is_left is.right_next after);
      left_part = λ q h. is.left_part q (subst (λ xs. has xs q ≡ true) (sym l) (or_right (eq_by_cmp op_cmp q a) (has more q) h));
      right_part = is.right_part;
      covered = λ q.
          (λ k. (ap (λ xs. has xs q) e ∙ has_pushed keep out a q) k || (keep q && (has more q || has rights q)))
          ∙ moved (has out q) (eq_by_cmp op_cmp q a) (keep q) (has more q) (has rights q)
          ∙ (λ k. has out q || (keep q && (has (sym l k) q || has rights q)))
          ∙ is.covered q;
    }

merging_turned : (keep : Op → Bool) (out lefts rights left right : List Op) → IsMerging keep out lefts rights left right → IsMerging keep out rights lefts right left
merging_turned keep out lefts rights left right is =
    record {
      left_next = is.right_next;
      right_next = is.left_next;
      left_part = is.right_part;
      right_part = is.left_part;
      covered = λ q. (λ k. has out q || (keep q && or_comm (has rights q) (has lefts q) k)) ∙ is.covered q ∙ (λ k. keep q && or_comm (has left q) (has right q) k);
    }

pub took_right : (keep : Op → Bool) (out new lefts rights left right bs : List Op) (b : Op) → IsMerging keep out lefts rights left right → rights ≡ b ∷ bs → AllAfter b.id lefts
    → new ≡ out ++ filter keep (b ∷ []) → IsMerging keep new lefts bs left right
took_right keep out new lefts rights left right bs b is r after e =
    merging_turned keep new bs lefts right left (took_left keep out new rights lefts right left bs b (merging_turned keep out lefts rights left right is) r after e)

ById-end : (out rest : List Op) → ById (out ++ rest) → ById rest
ById-end [] rest h = h
ById-end (x ∷ out) rest h = ById-end out rest h.1

pub next_of : (keep : Op → Bool) (out lefts rights left right : List Op) → IsMerging keep out lefts rights left right → ById lefts × ById rights
next_of keep out lefts rights left right is = (ById-end out lefts is.left_next, ById-end out rights is.right_next)

pub head_in : (xs more : List Op) (a : Op) → xs ≡ a ∷ more → has xs a ≡ true
head_in xs more a e = subst (λ ys. has ys a ≡ true) (sym e) (or_left _ (has more a) (ap is_eq (tied_itself op_total a)))

pub took_both : (keep : Op → Bool) (out new lefts rights left right more bs : List Op) (a b : Op) → IsMerging keep out lefts rights left right → Agree left right → lefts ≡ a ∷ more → rights ≡ b ∷ bs → a.id ≡ b.id
    → new ≡ out ++ filter keep (a ∷ []) → IsMerging keep new more bs left right
took_both keep out new lefts rights left right more bs a b is agree l r same e =
    let ab : a ≡ b = agree a b (is.left_part a (head_in lefts more a l)) (is.right_part b (head_in rights bs b r)) same in
    let r' : rights ≡ a ∷ bs = r ∙ ap (λ x. x ∷ bs) (sym ab) in
    record {
      left_next = subst (λ xs. ById (xs ++ more)) (sym e) (push_own (keep a) out more a (subst (λ xs. ById (out ++ xs)) l is.left_next));
      right_next = subst (λ xs. ById (xs ++ bs)) (sym e) (push_own (keep a) out bs a (subst (λ xs. ById (out ++ xs)) r' is.right_next));
      left_part = λ q h. is.left_part q (subst (λ xs. has xs q ≡ true) (sym l) (or_right (eq_by_cmp op_cmp q a) (has more q) h));
      right_part = λ q h. is.right_part q (subst (λ xs. has xs q ≡ true) (sym r) (or_right (eq_by_cmp op_cmp q b) (has bs q) h));
      covered = λ q.
          (λ k. (ap (λ xs. has xs q) e ∙ has_pushed keep out a q) k || (keep q && (has more q || has bs q)))
          ∙ moved_both (has out q) (eq_by_cmp op_cmp q a) (keep q) (has more q) (has bs q)
          ∙ (λ k. has out q || (keep q && (has (sym l k) q || has (sym r' k) q)))
          ∙ is.covered q;
    }

-- ---- the end: the rest of one list is filtered, and appended to the output

AllAfter-filter : (f : Op → Bool) (i : Id) (xs : List Op) → AllAfter i xs → AllAfter i (filter f xs)
AllAfter-filter f i [] h = tt
AllAfter-filter f i (x ∷ xs) h =
    elim (f x) as (λ b. AllAfter i (cond b (x ∷ filter f xs) (filter f xs))) [ true ↦ (h.0, AllAfter-filter f i xs h.1) | false ↦ AllAfter-filter f i xs h.1 ]

pub ById-filter : (f : Op → Bool) (xs : List Op) → ById xs → ById (filter f xs)
ById-filter f [] h = tt
ById-filter f (x ∷ xs) h =
    elim (f x) as (λ b. ById (cond b (x ∷ filter f xs) (filter f xs))) [ true ↦ (AllAfter-filter f x.id xs h.0, ById-filter f xs h.1) | false ↦ ById-filter f xs h.1 ]

AllAfter-filter_end : (f : Op → Bool) (i : Id) (out xs : List Op) → AllAfter i (out ++ xs) → AllAfter i (out ++ filter f xs)
AllAfter-filter_end f i [] xs h = AllAfter-filter f i xs h
AllAfter-filter_end f i (x ∷ out) xs h = (h.0, AllAfter-filter_end f i out xs h.1)

ById-filter_end : (f : Op → Bool) (out xs : List Op) → ById (out ++ xs) → ById (out ++ filter f xs)
ById-filter_end f [] xs h = ById-filter f xs h
ById-filter_end f (x ∷ out) xs h = (AllAfter-filter_end f x.id out xs h.0, ById-filter_end f out xs h.1)

and_or : (k e m : Bool) → ((e && k) || (k && m)) ≡ (k && (e || m))
and_or true true m = refl
and_or true false m = refl
and_or false true m = refl
and_or false false m = refl

pub has-filter : (f : Op → Bool) (xs : List Op) (q : Op) → has (filter f xs) q ≡ (f q && has xs q)
has-filter f [] q = sym (and-false (f q))
has-filter f (x ∷ xs) q = split (f x) ∙ (λ k. has_out_of f q x k || has-filter f xs q k) ∙ and_or (f q) (eq_by_cmp op_cmp q x) (has xs q)
  where
    split : (b : Bool) → has (cond b (x ∷ filter f xs) (filter f xs)) q ≡ (has (out_of b x) q || has (filter f xs) q)
    split true = ap (λ b. b || has (filter f xs) q) (sym (or-false (eq_by_cmp op_cmp q x)))
    split false = refl

pub spent_left : (keep : Op → Bool) (out new lefts rights left right : List Op) → IsMerging keep out lefts rights left right → length lefts ≡ 0 → new ≡ out ++ filter keep rights
    → ById new × ((q : Op) → has new q ≡ (keep q && (has left q || has right q)))
spent_left keep out new [] rights left right is h e = (
  subst ById (sym e) (ById-filter_end keep out rights is.right_next),
  λ q. ap (λ xs. has xs q) e ∙ list_any-append (eq_by_cmp op_cmp q) out (filter keep rights) ∙ ap (λ b. has out q || b) (has-filter keep rights q) ∙ is.covered q,
)
spent_left keep out new (x ∷ xs) rights left right is h e = absurd (omega arith)

pub spent_right : (keep : Op → Bool) (out new lefts rights left right : List Op) → IsMerging keep out lefts rights left right → length rights ≡ 0 → new ≡ out ++ filter keep lefts
    → ById new × ((q : Op) → has new q ≡ (keep q && (has left q || has right q)))
spent_right keep out new lefts rights left right is h e =
    let r = spent_left keep out new rights lefts right left (merging_turned keep out lefts rights left right is) h e in
    (r.0, λ q. r.1 q ∙ (λ k. keep q && or_comm (has right q) (has left q) k))

-- ---- a search by id

-- p is o, or is before it
abbrev pub IsUpTo : Op → Op → Type 0
IsUpTo p o = (p ≡ o) ⊎ (is_before p.id o.id ≡ true)

after_at : (i : Id) (os : List Op) (j : ℕ) (d : Op) → AllAfter i os → j < length os → is_before i (get_or os j d).id ≡ true
after_at i [] j d h k = absurd (omega arith)
after_at i (o ∷ os) zero d h k = h.0
after_at i (o ∷ os) (suc j) d h k = after_at i os j d h.1 (omega arith)

pub by_id_far : (os : List Op) → ById os → (i j : ℕ) (d : Op) → i ≤ j → j < length os → IsUpTo (get_or os i d) (get_or os j d)
by_id_far [] h i j d a b = absurd (omega arith)
by_id_far (o ∷ os) h zero zero d a b = inl refl
by_id_far (o ∷ os) h zero (suc j) d a b = inr (after_at o.id os j d h.0 (omega arith))
by_id_far (o ∷ os) h (suc i) zero d a b = absurd (omega arith)
by_id_far (o ∷ os) h (suc i) (suc j) d a b = by_id_far os h.1 i j d (omega arith) (omega arith)

pub earlier_low : (i : Id) (p o : Op) → IsUpTo p o → is_before o.id i ≡ true → is_before p.id i ≡ true
earlier_low i p o (inl e) h = subst (λ x. is_before x.id i ≡ true) (sym e) h
earlier_low i p o (inr e) h = before_chain p.id o.id i e h

pub entry_from : (i : Id) (u : Op → Bool) (o : Op) → (is_same i o.id && u o) ≡ true → is_before o.id i ≡ false
entry_from i u o h = false_from_ne_true _ (λ k. true≢false (sym (and_parts _ _ h).0 ∙ before_not_back o.id i k))

pub entry_down : (i : Id) (u : Op → Bool) (p o : Op) → IsUpTo p o → is_before p.id i ≡ false → (is_same i o.id && u o) ≡ true → (is_same i p.id && u p) ≡ true
entry_down i u p o (inl e) h k = subst (λ x. (is_same i x.id && u x) ≡ true) (sym e) k
entry_down i u p o (inr e) h k = absurd (true≢false (sym (subst (λ j. is_before p.id j ≡ true) (sym (is_same_exact i o.id (and_parts _ _ k).0)) e) ∙ h))

-- ---- operations that the marks of their own list do not replace

pub own_left : (ms ns : MarkSet) (q : Op) → is_marked_off ms q ≡ false → lasts ns q ≡ stays ms ns q
own_left ms ns q h = λ k. not (sym h k || is_marked_off ns q)

pub own_right : (ms ns : MarkSet) (q : Op) → is_marked_off ns q ≡ false → lasts ms q ≡ stays ms ns q
own_right ms ns q h = ap not (or_comm false (is_marked_off ms q) ∙ (λ k. is_marked_off ms q || sym h k))

pub filter_on : (f g : Op → Bool) (xs : List Op) → ((q : Op) → has xs q ≡ true → f q ≡ g q) → filter f xs ≡ filter g xs
filter_on f g [] h = refl
filter_on f g (x ∷ xs) h =
    let rest = filter_on f g xs (λ q k. h q (or_right (eq_by_cmp op_cmp q x) (has xs q) k)) in
    λ k. cond (h x (or_left _ (has xs x) (ap is_eq (tied_itself op_total x))) k) (x ∷ rest k) (rest k)

pub id_from : (i : Id) (o : Op) → is_same i o.id ≡ true → is_before o.id i ≡ false
id_from i o h = entry_from i (λ (p : Op). true) o (and_from _ _ h refl)

pub id_down : (i : Id) (p o : Op) → IsUpTo p o → is_before p.id i ≡ false → is_same i o.id ≡ true → is_same i p.id ≡ true
id_down i p o le low h = (and_parts _ _ (entry_down i (λ (q : Op). true) p o le low (and_from _ _ h refl))).0
