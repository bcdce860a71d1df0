-- A list of operations that is ordered by id is the items of its set. The least clash of a set.
use Rattle.std.proofs.Common.{◌≡◌, Bool, true, false, ◌||◌, cond, List, [], ◌∷◌, refl, sym, ap, ◌∙◌, subst, inl, inr, Option, Some, None, ◌↔◌}
use Rattle.std.proofs.lemmas.Bool.{true≢false, and_from, and_parts, or_cases, or_left, or_right, false_from_ne_true, not-true, not_from_false}
use Rattle.std.specs.List.{list_any, find}
use Rattle.std.specs.Option.{option_map}
use Rattle.std.specs.Cmp.{IsTotalOrder, Equal-is, tied_itself, eq_by_cmp_equiv}
use Rattle.std.specs.Ordering.{is_lt, is_eq, eq_by_cmp, ordering_then, ordering_reverse}
use Rattle.std.specs.declared.cmp.Ordering.{Ordering}
use Rattle.std.specs.declared.cmp.Ordering.TheVariants.{Less, Equal, Greater}
use Rattle.std.proofs.lemmas.List.Sorted.{ranks_by}
use Rattle.std.proofs.lemmas.Option.{same_Some, none-some}
use Rattle.reg_op.specs.Set as set
use Rattle.reg_op.specs.Set.{contains, items, Ascends, items-from_list}
use Rattle.reg_op.specs.Ids.{Id, id_cmp, is_before}
use Rattle.reg_op.specs.Operations.{Op, Ops, op_cmp, OneBody, clashes, first_clash, has_other_body}
use Rattle.reg_op.specs.Lists.{has, AllAfter, ById}
use Rattle.reg_op.specs.Kept.{IsLeastClash}
use Rattle.reg_op.proofs.FiniteLemmas.{any_from_member, member_from_any, some_of, among}
use Rattle.reg_op.proofs.OpLemmas.{id_total, op_total, op_exact, is_same_exact, is_same_back}
use Rattle.reg_op.proofs.ContentLemmas.{no_clash, one_body_from}
use Rattle.reg_op.proofs.SetLemmas.{Climbs, AllAbove, items_climb, less}

-- two elements compare as equal if neither is less than the other
pub tied_of : {K : Type 0} {R : K → K → Ordering} (o : IsTotalOrder R) (a b : K) → is_lt (R a b) ≡ false → is_lt (R b a) ≡ false → is_eq (R a b) ≡ true
tied_of {R = R} o a b h k = from (R a b) (R b a) (o.antisymm b a) h k
  where
    from : (r s : Ordering) → s ≡ ordering_reverse r → is_lt r ≡ false → is_lt s ≡ false → is_eq r ≡ true
    from Less s e h k = absurd (true≢false h)
    from Equal s e h k = refl
    from Greater s e h k = absurd (true≢false (sym (ap is_lt e) ∙ k))

-- two ids are equal if neither is before the other
pub same_id : (a b : Id) → is_before a b ≡ false → is_before b a ≡ false → a ≡ b
same_id a b h k = is_same_exact a b (tied_of id_total a b h k)

-- ---- a list that is ordered by id is the items of its set

lt_then : (a b : Ordering) → is_lt a ≡ true → is_lt (ordering_then a b) ≡ true
lt_then Less b h = refl
lt_then Equal b h = absurd (true≢false (sym h))
lt_then Greater b h = absurd (true≢false (sym h))

pub before_less : (p o : Op) → is_before p.id o.id ≡ true → is_lt (op_cmp p o) ≡ true
before_less p o h = lt_then (id_cmp p.id o.id) _ h

ascends : (os : List Op) → ById os → Ascends op_cmp os
ascends [] h = tt
ascends (o ∷ []) h = tt
ascends (o ∷ p ∷ os) h = (less _ (before_less o p h.0.0), ascends (p ∷ os) h.1)

pub items_are : (os : List Op) → ById os → items (set.from_list {R = op_cmp} os) ≡ os
items_are os h = items-from_list op_total os (ascends os h)

-- ---- in a list whose ids never descend, the first operation that passes has the least id

-- NoneBefore: no id of the list is before i. Rises: no id of the list is before an earlier one
abbrev pub NoneBefore : Id → List Op → Type 0
NoneBefore i [] = Unit {0}
NoneBefore i (o ∷ os) = (is_before o.id i ≡ false) × NoneBefore i os

abbrev pub Rises : List Op → Type 0
Rises [] = Unit {0}
Rises (o ∷ os) = NoneBefore o.id os × Rises os

-- o is in the list and passes, and no operation of the list that passes has an id before that of o
pub record IsLeast (t : Op → Bool) (xs : List Op) (o : Op) : Type 0 where
  pub passes : t o ≡ true
  pub there : has xs o ≡ true
  pub least : (p : Op) → has xs p ≡ true → t p ≡ true → is_before p.id o.id ≡ false

none_before : (i : Id) (xs : List Op) (p : Op) → NoneBefore i xs → has xs p ≡ true → is_before p.id i ≡ false
none_before i [] p h k = absurd (true≢false (sym k))
none_before i (x ∷ xs) p h k = elim (or_cases (eq_by_cmp op_cmp p x) (has xs p) k) [
  | inl e ↦ subst (λ y. is_before y.id i ≡ false) (sym (op_exact p x ((Equal-is (op_cmp p x)).0 e))) h.0
  | inr e ↦ none_before i xs p h.1 e
]

pub lt_id_itself : (i : Id) → is_before i i ≡ false
lt_id_itself i = ap is_lt (tied_itself id_total i)

pub found : (t : Op → Bool) (xs : List Op) → Rises xs → list_any t xs ≡ true → (o : Op) × (find t xs ≡ Some o) × IsLeast t xs o
found t [] up h = absurd (true≢false (sym h))
found t (x ∷ xs) up h =
    elim (t x) as (λ b. t x ≡ b → (b || list_any t xs) ≡ true → (o : Op) × (cond b (Some x) (find t xs) ≡ Some o) × IsLeast t (x ∷ xs) o) [
      | true ↦ λ e h. (
        x,
        refl,
        record {
          passes = e;
          there = or_left _ _ (ap is_eq (tied_itself op_total x));
          least = λ p k s. elim (or_cases (eq_by_cmp op_cmp p x) (has xs p) k) [
            | inl same ↦ subst (λ y. is_before y.id x.id ≡ false) (sym (op_exact p x ((Equal-is (op_cmp p x)).0 same))) (lt_id_itself x.id)
            | inr later ↦ none_before x.id xs p up.0 later
          ];
        },
      )
      | false ↦ λ e h. let r = found t xs up.1 h in (
        r.0,
        r.1,
        record {
          passes = r.2.passes;
          there = or_right (eq_by_cmp op_cmp r.0 x) _ r.2.there;
          least = λ p k s. elim (or_cases (eq_by_cmp op_cmp p x) (has xs p) k) [
            | inl same ↦ absurd (true≢false (sym (subst (λ y. t y ≡ true) (op_exact p x ((Equal-is (op_cmp p x)).0 same)) s) ∙ e))
            | inr later ↦ r.2.least p later s
          ];
        },
      )
    ] refl h

pub find_none : (t : Op → Bool) (xs : List Op) → list_any t xs ≡ false → find t xs ≡ None
find_none t [] h = refl
find_none t (x ∷ xs) h = elim (t x) as (λ b. (b || list_any t xs) ≡ false → cond b (Some x) (find t xs) ≡ None) [ true ↦ λ e. absurd (true≢false e) | false ↦ λ e. find_none t xs e ] h

-- the id of the first operation of a list that passes
abbrev pub first_id : (Op → Bool) → List Op → Option Id
first_id t xs = option_map (λ o. o.id) (find t xs)

-- each operation of xs that passes t has the id of an operation of ys that passes u
abbrev pub Matched : (Op → Bool) → List Op → (Op → Bool) → List Op → Type 0
Matched t xs u ys = (o : Op) → has xs o ≡ true → t o ≡ true → (p : Op) × (has ys p ≡ true) × (u p ≡ true) × (p.id ≡ o.id)

pub any_of : (t : Op → Bool) (xs : List Op) (o : Op) → has xs o ≡ true → t o ≡ true → list_any t xs ≡ true
any_of t xs o h k = among op_total op_exact t xs o h k

pub same_first : (t u : Op → Bool) (xs ys : List Op) → Rises xs → Rises ys → Matched t xs u ys → Matched u ys t xs → first_id t xs ≡ first_id u ys
same_first t u xs ys up vp there back =
    elim (list_any t xs) as (λ b. list_any t xs ≡ b → first_id t xs ≡ first_id u ys) [
      | true ↦ λ h.
          let r = found t xs up h in
          let m = there r.0 r.2.there r.2.passes in
          let s = found u ys vp (any_of u ys m.0 m.1 m.2) in
          let n = back s.0 s.2.there s.2.passes in
          let not_later : is_before r.0.id s.0.id ≡ false = subst (λ i. is_before i s.0.id ≡ false) m.3 (s.2.least m.0 m.1 m.2) in
          let not_sooner : is_before s.0.id r.0.id ≡ false = subst (λ i. is_before i r.0.id ≡ false) n.3 (r.2.least n.0 n.1 n.2) in
          ap (option_map (λ o. o.id)) r.1 ∙ ap Some (same_id r.0.id s.0.id not_later not_sooner) ∙ sym (ap (option_map (λ o. o.id)) s.1)
      | false ↦ λ h.
          let none : list_any u ys ≡ false = false_from_ne_true _ (λ k.
          let s = some_of op_total op_exact u ys k in
          let n = back s.0 s.1 s.2 in
          true≢false (sym (any_of t xs n.0 n.1 n.2) ∙ h)) in
          ap (option_map (λ o. o.id)) (find_none t xs h ∙ sym (find_none u ys none))
    ] refl

pub rises_by_id : (os : List Op) → ById os → Rises os
rises_by_id [] h = tt
rises_by_id (o ∷ os) h = (none o.id os h.0, rises_by_id os h.1)
  where
    none : (i : Id) (xs : List Op) → AllAfter i xs → NoneBefore i xs
    none i [] h = tt
    none i (x ∷ xs) h = ((ranks_by id_total (λ j. j)).one_way i x.id h.0, none i xs h.1)

not_later : (o p : Op) → is_lt (op_cmp o p) ≡ true → is_before p.id o.id ≡ false
not_later o p h = false_from_ne_true _ (λ k. true≢false (sym (before_less p o k) ∙ (ranks_by op_total (λ x. x)).one_way o p h))

rising : (os : List Op) → Climbs op_cmp os → Rises os
rising [] h = tt
rising (o ∷ os) h = (below o os h.0, rising os h.1)
  where
    below : (o : Op) (os : List Op) → AllAbove op_cmp o os → NoneBefore o.id os
    below o [] h = tt
    below o (p ∷ ps) h = (not_later o p h.0, below o ps h.1)

-- no item of a set has an id before that of an earlier item
pub items_rise : (s : Ops) → Rises (items s)
items_rise s = rising (items s) (items_climb op_cmp s)

pub clashes_back : (p o : Op) → clashes p o ≡ true → clashes o p ≡ true
clashes_back p o h = let r = and_parts _ _ h in
    and_from _ _ (is_same_back p.id o.id r.0) (not_from_false _ (false_from_ne_true _ (λ e. true≢false (sym ((eq_by_cmp_equiv op_total).symm p o ∙ e) ∙ not-true _ r.1))))

pub same_no_clash : (s : Ops) (p o : Op) → OneBody s → contains s p ≡ true → contains s o ≡ true → clashes p o ≡ true → ⊥
same_no_clash s p o one a b h =
    let r = and_parts _ _ h in
    let e : p ≡ o = one p o a b (is_same_exact p.id o.id r.0) in
    true≢false (sym (ap is_eq (tied_itself op_total o)) ∙ subst (λ x. is_eq (op_cmp x o) ≡ false) e (not-true _ r.1))

-- ---- the least clash of a set

clash_found : (s : Ops) (i : Id) → list_any (has_other_body s) (items s) ≡ true → (o : Op) × (first_clash s ≡ Some o.id) × IsLeastClash s o.id
clash_found s i h =
    let r = found (has_other_body s) (items s) (items_rise s) h in
    let o = r.0 in
    let p = member_from_any op_total op_exact (λ p. clashes p o) s r.2.passes in (
      o,
      ap (option_map (λ o. o.id)) r.1,
      record {
        one = o;
        other = p.0;
        has_one = set.contains-items s o ∙ r.2.there;
        has_other = p.1;
        at = refl;
        differ = p.2;
        least = λ q x a b d. r.2.least x (sym (set.contains-items s x) ∙ b) (any_from_member op_total op_exact (λ y. clashes y x) s q a d);
      },
    )

pub clash_least : (s : Ops) (i : Id) → first_clash s ≡ Some i ↔ IsLeastClash s i
clash_least s i = (
  λ h.
      elim (list_any (has_other_body s) (items s)) as (λ b. list_any (has_other_body s) (items s) ≡ b → IsLeastClash s i) [
        | true ↦ λ e. let r = clash_found s i e in subst (IsLeastClash s) (same_Some r.0.id i (sym r.1 ∙ h)) r.2
        | false ↦ λ e. absurd (none-some i (sym (ap (option_map (λ (o : Op). o.id)) (find_none (has_other_body s) (items s) e)) ∙ h))
      ] refl,
  λ l.
      let here : list_any (has_other_body s) (items s) ≡ true = any_of (has_other_body s) (items s) l.one (sym (set.contains-items s l.one) ∙ l.has_one) (any_from_member op_total op_exact (λ y. clashes y l.one) s l.other l.has_other l.differ) in
      let r = clash_found s i here in
      let not_sooner : is_before r.0.id i ≡ false = subst (λ j. is_before j i ≡ false) r.2.at (l.least r.2.other r.2.one r.2.has_other r.2.has_one r.2.differ) in
      let not_later : is_before i r.0.id ≡ false = subst (λ j. is_before j r.0.id ≡ false) l.at (r.2.least l.other l.one l.has_other l.has_one l.differ) in
      r.1 ∙ ap Some (same_id r.0.id i not_sooner not_later),
)

pub clash_none : (s : Ops) → (first_clash s ≡ None) ↔ OneBody s
clash_none s = (one_body_from s, no_clash s)
