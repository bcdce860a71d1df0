-- The marks that a target covers, and the order of marks.
use Rattle.std.proofs.Common.{◌≡◌, Bool, true, false, ◌&&◌, refl, sym, ap, ◌∙◌, subst, Option, None, Some}
use Rattle.std.proofs.lemmas.Bool.{true≢false, and_from, and_parts}
use Rattle.std.proofs.Math.Bool.{and-false, and-true}
use Rattle.std.specs.Cmp.{Equal-is, tied_then}
use Rattle.std.specs.Option.{option_cmp}
use Rattle.std.specs.Ordering.{is_lt, is_eq, eq_by_cmp, ordering_then, ordering_reverse}
use Rattle.std.specs.declared.cmp.Ordering.{Ordering}
use Rattle.std.specs.declared.cmp.Ordering.TheVariants.{Less, Equal, Greater}
use Rattle.reg_op.specs.Ids.{Id, id_cmp, is_same, is_before}
use Rattle.reg_op.proofs.OpLemmas.{is_same_back, is_same_chain}
use Rattle.reg_state.specs.declared.mark.Mark.{Mark}
use Rattle.reg_state.specs.declared.mark.MarkTarget.{MarkTarget}
use Rattle.reg_state.specs.MarkSets.{mark_cmp, lessens_by, lessens, covers_by, covers, BeginsAt}
use Rattle.reg_state.specs.MarkLaws.{mark_total}
use Rattle.reg_state.proofs.OrderLemmas.{IsBy, same_back, begins_at, begins_entry}

-- ---- a mark makes another redundant if and only if its target covers the other, and it is before it

covered_by : (x y : Option Id) (before : Bool) → lessens_by x y before ≡ true → covers_by x y ≡ true
covered_by None None before h = refl
covered_by None (Some n) before h = refl
covered_by (Some n) None before h = absurd (true≢false (sym h))
covered_by (Some n) (Some o) before h = (and_parts _ _ h).0

pub lesser_covers : (p m : Mark) → lessens p m ≡ true → covers p.target m ≡ true
lesser_covers p m h = let a = and_parts _ _ h in and_from _ _ a.0 (covered_by p.target.by m.target.by _ a.1)

first_by : (r : Ordering) (x y : Option Id) (i j : Id) → is_eq r ≡ true → lessens_by x y (is_before i j) ≡ true → is_lt (ordering_then (ordering_then r (option_cmp id_cmp x y)) (id_cmp i j)) ≡ true
first_by Less x y i j e h = absurd (true≢false (sym e))
first_by Greater x y i j e h = absurd (true≢false (sym e))
first_by Equal None None i j e h = h
first_by Equal None (Some n) i j e h = refl
first_by Equal (Some n) None i j e h = absurd (true≢false (sym h))
first_by Equal (Some n) (Some o) i j e h =
    let a = and_parts _ _ h in
    (λ k. is_lt (ordering_then ((Equal-is (id_cmp n o)).0 a.0 k) (id_cmp i j))) ∙ a.1

pub lesser_first : (p m : Mark) → lessens p m ≡ true → is_lt (mark_cmp p m) ≡ true
lesser_first p m h =
    let a = and_parts _ _ h in
    first_by (id_cmp p.target.entry m.target.entry) p.target.by m.target.by p.id m.id a.0 a.1

by_first : (r : Ordering) (x y : Option Id) (i j : Id) → is_eq r ≡ true → covers_by x y ≡ true → is_lt (ordering_then (ordering_then r (option_cmp id_cmp x y)) (id_cmp i j)) ≡ true → lessens_by x y (is_before i j) ≡ true
by_first Less x y i j e c h = absurd (true≢false (sym e))
by_first Greater x y i j e c h = absurd (true≢false (sym e))
by_first Equal None None i j e c h = h
by_first Equal None (Some n) i j e c h = refl
by_first Equal (Some n) None i j e c h = absurd (true≢false (sym c))
by_first Equal (Some n) (Some o) i j e c h =
    and_from _ _ c ((λ k. is_lt (ordering_then (sym ((Equal-is (id_cmp n o)).0 c) k) (id_cmp i j))) ∙ h)

pub first_lessens : (p m : Mark) → covers p.target m ≡ true → is_lt (mark_cmp p m) ≡ true → lessens p m ≡ true
first_lessens p m c h =
    let a = and_parts _ _ c in
    and_from _ _ a.0 (by_first (id_cmp p.target.entry m.target.entry) p.target.by m.target.by p.id m.id a.0 a.1 h)

-- if a mark covers one that is before it, the earlier one makes it redundant
by_back : (r : Ordering) (x y : Option Id) (i j : Id) → is_eq r ≡ true → covers_by x y ≡ true → is_lt (ordering_then (ordering_then r (option_cmp id_cmp y x)) (id_cmp j i)) ≡ true → lessens_by y x (is_before j i) ≡ true
by_back Less x y i j e c h = absurd (true≢false (sym e))
by_back Greater x y i j e c h = absurd (true≢false (sym e))
by_back Equal None None i j e c h = h
by_back Equal None (Some n) i j e c h = absurd (true≢false (sym h))
by_back Equal (Some n) None i j e c h = absurd (true≢false (sym c))
by_back Equal (Some n) (Some o) i j e c h =
    let back = is_same_back n o c in
    and_from _ _ back ((λ k. is_lt (ordering_then (sym ((Equal-is (id_cmp o n)).0 back) k) (id_cmp j i))) ∙ h)

pub covered_lessens : (m q : Mark) → covers m.target q ≡ true → is_lt (mark_cmp q m) ≡ true → lessens q m ≡ true
covered_lessens m q c h =
    let a = and_parts _ _ c in
    let back = is_same_back m.target.entry q.target.entry a.0 in
    and_from _ _ back (by_back (id_cmp q.target.entry m.target.entry) m.target.by q.target.by m.id q.id back a.1 h)

-- of two different marks, the one that is no later is before the other
pub first_of : (x q : Mark) → IsBy x q → eq_by_cmp mark_cmp q x ≡ false → is_lt (mark_cmp x q) ≡ true
first_of x q h e = from (mark_cmp q x) (mark_cmp x q) (mark_total.antisymm x q) h e
  where
    from : (r s : Ordering) → s ≡ ordering_reverse r → is_lt r ≡ false → is_eq r ≡ false → is_lt s ≡ true
    from Less s e h k = absurd (true≢false h)
    from Equal s e h k = absurd (true≢false k)
    from Greater s e h k = ap is_lt e

-- ---- `covers` is transitive and reflexive

covers_by_chain : (x y z : Option Id) → covers_by x y ≡ true → covers_by y z ≡ true → covers_by x z ≡ true
covers_by_chain None y z h k = refl
covers_by_chain (Some n) None z h k = absurd (true≢false (sym h))
covers_by_chain (Some n) (Some o) None h k = absurd (true≢false (sym k))
covers_by_chain (Some n) (Some o) (Some q) h k = is_same_chain n o q h k

pub covers_chain : (t : MarkTarget) (m q : Mark) → covers t m ≡ true → covers m.target q ≡ true → covers t q ≡ true
covers_chain t m q h k =
    let a = and_parts _ _ h in
    let b = and_parts _ _ k in
    and_from _ _ (is_same_chain t.entry m.target.entry q.target.entry a.0 b.0) (covers_by_chain t.by m.target.by q.target.by a.1 b.1)

-- ---- the marks that a target covers begin at the target

pub then_less : (r : Ordering) → is_eq (ordering_then r Less) ≡ false
then_less Less = refl
then_less Equal = refl
then_less Greater = refl

at_covered : (e n : Id) (i : Id) (by : Option Id) → is_eq (ordering_then (id_cmp i e) (option_cmp id_cmp by (Some n))) ≡ (is_same e i && covers_by (Some n) by)
at_covered e n i None = then_less (id_cmp i e) ∙ sym (and-false (is_same e i))
at_covered e n i (Some o) = sym (tied_then (id_cmp i e) (id_cmp o n)) ∙ (λ k. same_back i e k && same_back o n k)

begins_by : (e : Id) (by : Option Id) → BeginsAt (record { entry = e; by = by }) (covers (record { entry = e; by = by }))
begins_by e None = subst (BeginsAt (record { entry = e; by = None })) (λ k m. sym (and-true (is_same e m.target.entry)) k) (begins_entry e)
begins_by e (Some n) = subst (BeginsAt (record { entry = e; by = Some n })) (λ k m. at_covered e n m.target.entry m.target.by k) (begins_at (record { entry = e; by = Some n }))

pub begins_covered : (t : MarkTarget) → BeginsAt t (covers t)
begins_covered t = begins_by t.entry t.by
