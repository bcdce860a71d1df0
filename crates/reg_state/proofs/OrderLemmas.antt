-- The order of marks, and the search for a target.
use Rattle.std.proofs.Common.{◌≡◌, ℕ, Bool, true, false, ◌&&◌, ◌≤◌, ◌<◌, List, length, get_or, refl, sym, ap, ◌∙◌, subst, Option, None, Some}
use Rattle.std.proofs.lemmas.Bool.{and_from, and_parts, true≢false, true_from_ne_false, false_from_ne_true, not-true}
use Rattle.std.proofs.lemmas.List.Sorted.{ranks_by, sorted_far}
use Rattle.std.proofs.lemmas.List.Folds.{list_any_at}
use Rattle.std.specs.List.{list_any}
use Rattle.std.specs.List.Sorted.{IsSorted}
use Rattle.std.specs.Cmp.{IsStrictWeakOrder, Equal-is, tied_back, eq_by_cmp_equiv, both_ways, tied_itself}
use Rattle.std.specs.Option.{option_cmp}
use Rattle.std.specs.Ordering.{is_lt, is_eq, eq_by_cmp, ordering_then}
use Rattle.std.specs.declared.cmp.Ordering.{Ordering}
use Rattle.std.specs.declared.cmp.Ordering.TheVariants.{Less, Equal, Greater}
use Rattle.reg_op.specs.Set as set
use Rattle.reg_op.specs.Set.{contains, contains-from_list}
use Rattle.reg_op.specs.Finite.{any}
use Rattle.reg_op.specs.Ids.{Id, id_cmp, is_same, is_before}
use Rattle.reg_op.specs.Lists.{passes}
use Rattle.reg_op.proofs.FiniteLemmas.{any_from_member, member_from_any, among, some_of, any-topmost, contains-topmost}
use Rattle.reg_op.proofs.OpLemmas.{id_total}
use Rattle.reg_op.proofs.ClashLemmas.{tied_of}
use Rattle.reg_state.specs.declared.mark.Mark.{Mark}
use Rattle.reg_state.specs.declared.mark.MarkTarget.{MarkTarget}
use Rattle.reg_state.specs.MarkSets.{target_cmp, mark_cmp, is_at, has, MarkSet, lessens_by, lessens, least, AreLeast, BeginsAt}
use Rattle.reg_state.specs.MarkLaws.{target_total, mark_total, mark_exact, at_exact, lessens_irreflexive, lessens_chain}

lt_target : IsStrictWeakOrder (λ a b. is_lt (target_cmp a b))
lt_target = ranks_by target_total (λ t. t)

lt_id : IsStrictWeakOrder (λ a b. is_lt (id_cmp a b))
lt_id = ranks_by id_total (λ i. i)

lt_then : (a b : Ordering) → is_lt a ≡ true → is_lt (ordering_then a b) ≡ true
lt_then Less b h = refl
lt_then Equal b h = absurd (true≢false (sym h))
lt_then Greater b h = absurd (true≢false (sym h))

eq_not_lt : (a : Ordering) → is_eq a ≡ true → is_lt a ≡ false
eq_not_lt Less h = absurd (true≢false (sym h))
eq_not_lt Equal h = refl
eq_not_lt Greater h = refl

-- m is no later than n
abbrev pub IsBy : Mark → Mark → Type 0
IsBy m n = is_lt (mark_cmp n m) ≡ false

pub marks_far : (ms : List Mark) → IsSorted mark_cmp ms → (i j : ℕ) (d : Mark) → i ≤ j → j < length ms → IsBy (get_or ms i d) (get_or ms j d)
marks_far ms up = sorted_far (λ m n. is_lt (mark_cmp m n)) (ranks_by mark_total (λ m. m)) ms up

pub by_target : (m n : Mark) → IsBy m n → is_lt (target_cmp n.target m.target) ≡ false
by_target m n h = false_from_ne_true _ (λ k. true≢false (sym (lt_then _ (id_cmp n.id m.id) k) ∙ h))

pub below_low : (t : MarkTarget) (m n : Mark) → IsBy m n → is_lt (target_cmp n.target t) ≡ true → is_lt (target_cmp m.target t) ≡ true
below_low t m n h b = true_from_ne_false _ (λ k. true≢false (sym b ∙ lt_target.chain n.target m.target t (by_target m n h) k))

at_back : (t : MarkTarget) (n : Mark) → is_at t n ≡ true → is_eq (target_cmp t n.target) ≡ true
at_back t n a = ap is_eq (tied_back target_total n.target t ((Equal-is (target_cmp n.target t)).0 a))

-- of the marks that are not below t, one that is no later than a mark at t is at t
at_earlier : (t : MarkTarget) (m n : Mark) → IsBy m n → is_lt (target_cmp m.target t) ≡ false → is_at t n ≡ true → is_at t m ≡ true
at_earlier t m n h k a =
    tied_of target_total m.target t k
    (lt_target.chain t n.target m.target (eq_not_lt _ (at_back t n a)) (by_target m n h))

pub begins_at : (t : MarkTarget) → BeginsAt t (λ m. is_at t m)
begins_at t = record {
  from = λ m h. eq_not_lt _ h;
  down = λ m n h k a. at_earlier t m n h k a;
}

-- ---- the marks of an entry

less_not_eq : (a b : Ordering) → is_eq a ≡ true → is_lt (ordering_then a b) ≡ is_lt b
less_not_eq Less b h = absurd (true≢false (sym h))
less_not_eq Equal b h = refl
less_not_eq Greater b h = absurd (true≢false (sym h))

none_least : (by : Option Id) → is_lt (option_cmp id_cmp by None) ≡ false
none_least None = refl
none_least (Some n) = refl

pub same_back : (a b : Id) → is_same a b ≡ is_same b a
same_back a b = (eq_by_cmp_equiv id_total).symm a b

pub begins_entry : (e : Id) → BeginsAt (record { entry = e; by = None }) (λ m. is_same e m.target.entry)
begins_entry e = record {
  from = λ m h. less_not_eq (id_cmp m.target.entry e) _ (same_back m.target.entry e ∙ h) ∙ none_least m.target.by;
  down = λ m n h k a.
      let no_sooner : is_lt (id_cmp m.target.entry e) ≡ false = false_from_ne_true _ (λ l. true≢false (sym (lt_then _ (option_cmp id_cmp m.target.by None) l) ∙ k)) in
      let no_later : is_lt (id_cmp n.target.entry m.target.entry) ≡ false = false_from_ne_true _ (λ l. true≢false (sym (lt_then _ (option_cmp id_cmp n.target.by m.target.by) l) ∙ by_target m n h)) in
      let at_e : is_lt (id_cmp e n.target.entry) ≡ false = eq_not_lt _ a in
      tied_of id_total e m.target.entry (lt_id.chain e n.target.entry m.target.entry at_e no_later) no_sooner;
}

-- ---- the set of a list

pub any-from_list : (t : Mark → Bool) (xs : List Mark) → any t (set.from_list {R = mark_cmp} xs) ≡ list_any t xs
any-from_list t xs = both_ways _ _
    (λ h. let r = member_from_any mark_total mark_exact t (set.from_list xs) h in among mark_total mark_exact t xs r.0 (sym (contains-from_list mark_total xs r.0) ∙ r.1) r.2)
    (λ h. let r = some_of mark_total mark_exact t xs h in any_from_member mark_total mark_exact t (set.from_list xs) r.0 (contains-from_list mark_total xs r.0 ∙ r.1) r.2)

pub same_mark : (a b : Mark) → a.target ≡ b.target → a.id ≡ b.id → a ≡ b
same_mark a b e f = λ k. record { target = e k; id = f k }

pub found_at : (xs : List Mark) (t : MarkTarget) (m : Mark) → has xs m ≡ true → is_at t m ≡ true → contains (set.from_list {R = mark_cmp} xs) (record { target = t; id = m.id }) ≡ true
found_at xs t m h a =
    subst (λ q. contains (set.from_list {R = mark_cmp} xs) q ≡ true) (same_mark m (record { target = t; id = m.id }) (at_exact t m a) refl)
    (contains-from_list mark_total xs m ∙ h)

pub found_there : (xs : List Mark) (k : ℕ) (m : Mark) → k < length xs → m ≡ get_or xs k m → has xs m ≡ true
found_there xs k m h at = list_any_at (eq_by_cmp mark_cmp m) xs k m h (ap (eq_by_cmp mark_cmp m) (sym at) ∙ ap is_eq (tied_itself mark_total m))

-- a search that decides a test on a list decides it on the set of the list
pub told_of : (t : Mark → Bool) (xs ys : List Mark) (s : MarkSet) (r q : Option Mark) → list_any t ys ≡ passes t r → ys ≡ xs → set.from_list {R = mark_cmp} xs ≡ s → r ≡ q → passes t q ≡ any t s
told_of t xs ys s r q h e f g = sym (ap (passes t) g) ∙ sym h ∙ ap (list_any t) e ∙ sym (any-from_list t xs) ∙ ap (any t) f

-- ---- the least marks

-- for a test that p passes if p makes redundant a mark that passes, `least` does not change whether some mark passes
pub any-least : (t : Mark → Bool) → ((p m : Mark) → lessens p m ≡ true → t m ≡ true → t p ≡ true) → (s : MarkSet) → any t (least s) ≡ any t s
any-least t falls s = any-topmost mark_total mark_exact lessens lessens_irreflexive lessens_chain t falls s

pub any_at : (s : MarkSet) (t : MarkTarget) (i : Id) → contains s (record { target = t; id = i }) ≡ true → any (λ m. is_at t m) s ≡ true
any_at s t i h = any_from_member mark_total mark_exact (λ m. is_at t m) s (record { target = t; id = i }) h (ap is_eq (tied_itself target_total t))

lessens_itself : (by : Option Id) (before : Bool) → before ≡ true → lessens_by by by before ≡ true
lessens_itself None before h = h
lessens_itself (Some n) before h = and_from _ _ (ap is_eq (tied_itself id_total n)) h

-- of two marks of a target, the one with the lesser id makes the other redundant
pub lessens_at : (p m : Mark) → is_at m.target p ≡ true → is_before p.id m.id ≡ true → lessens p m ≡ true
lessens_at p m a h =
    subst (λ (t : MarkTarget). (is_same t.entry m.target.entry && lessens_by t.by m.target.by (is_before p.id m.id)) ≡ true) (sym (at_exact m.target p a))
    (and_from _ _ (ap is_eq (tied_itself id_total m.target.entry)) (lessens_itself m.target.by _ h))

-- if no mark is redundant, a mark of a target is before j if and only if the target's mark is
pub any_before : (s : MarkSet) → AreLeast s → (t : MarkTarget) (i j : Id) → contains s (record { target = t; id = i }) ≡ true → any (λ m. is_at t m && is_before m.id j) s ≡ is_before i j
any_before s are t i j h = both_ways _ _
    (λ k.
    let r = member_from_any mark_total mark_exact (λ m. is_at t m && is_before m.id j) s k in
    let p = and_parts _ _ r.2 in
    true_from_ne_false _ (λ late.
    let sooner : is_before r.0.id i ≡ true = true_from_ne_false _ (λ no. true≢false (sym p.1 ∙ lt_id.chain r.0.id i j no late)) in
    let here : contains (least s) (record { target = t; id = i }) ≡ true = ap (λ x. contains x (record { target = t; id = i })) are ∙ h in
    let none = not-true _ (and_parts _ _ (sym (contains-topmost mark_total mark_exact lessens lessens_irreflexive lessens_chain s (record { target = t; id = i })) ∙ here)).1 in
    true≢false (sym (any_from_member mark_total mark_exact (λ q. lessens q (record { target = t; id = i })) s r.0 r.1 (lessens_at r.0 (record { target = t; id = i }) p.0 sooner)) ∙ none)))
    (λ k. any_from_member mark_total mark_exact (λ m. is_at t m && is_before m.id j) s (record { target = t; id = i }) h (and_from _ _ (ap is_eq (tied_itself target_total t)) k))

pub none_before : (s : MarkSet) (t : MarkTarget) (j : Id) → any (λ m. is_at t m) s ≡ false → any (λ m. is_at t m && is_before m.id j) s ≡ false
none_before s t j h = false_from_ne_true _ (λ k.
    let r = member_from_any mark_total mark_exact (λ m. is_at t m && is_before m.id j) s k in
    true≢false (sym (any_from_member mark_total mark_exact (λ m. is_at t m) s r.0 r.1 (and_parts _ _ r.2).0) ∙ h))
