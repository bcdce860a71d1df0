-- One more line: its effects, or why it is refused.
use Rattle.std.proofs.Common.{◌≡◌, nat_lt, ℕ, ◌+◌, ◌<◌, ◌≤◌, Bool, true, false, ◌&&◌, ◌||◌, cond, List, [], ◌∷◌, ◌++◌, append_assoc, append-nil, map, length, length-append, get_or, take, Option, Some, None, Ok, Err, refl, sym, ap, ◌∙◌, subst, inl, inr, arith}
use Rattle.std.proofs.lemmas.Bool.{cases_lt}
use Rattle.std.proofs.lemmas.Bool.Decides.{nat_tests}
use Rattle.std.proofs.lemmas.List.{take_more, map-append}
use Rattle.std.proofs.lemmas.List.Folds.{list_any-append}
use Rattle.std.specs.BTreeSet.{BTreeSet, contains}
use Rattle.std.specs.Cmp.{eq_by_cmp_equiv}
use Rattle.std.specs.declared.cmp.Ordering.{Ordering}
use Rattle.std.specs.declared.cmp.Ordering.TheVariants.{Less, Equal, Greater}
use Rattle.std.specs.Ordering.{is_eq, ordering_then}
use Rattle.reg_op.specs.Ids.{Id, id_cmp, is_same}
use Rattle.reg_op.specs.Operations.{Op}
use Rattle.reg_op.specs.declared.operation.OpBody.{OpBody as Body}
use Rattle.reg_op.specs.declared.operation.OpBody.TheVariants.{Supersede}
use Rattle.reg_op.specs.Contents.{Content, state, joined_unless, merged, IsContent}
use Rattle.reg_op.specs.Status.{is_supersession}
use Rattle.reg_op.proofs.OpLemmas.{id_total}
use Rattle.reg_state.specs.Runs.{id_at}
use Rattle.reg_office.specs.declared.fault.OfficeFault.{OfficeFault}
use Rattle.reg_office.specs.declared.fault.OfficeFault.TheVariants as fault
use Rattle.reg_office.specs.Making.{greatest, numbered, objections, else_next, note_fault, made}
use Rattle.reg_office.specs.Commands.{Does}
use Rattle.reg_office.proofs.NumberLemmas.{made_ok, made_refused, made_spent}
use Rattle.reg_office.proofs.LawLemmas.{made_are, is_greatest}
use Rattle.reg_supersede.specs.declared.pair.Pair.{Pair}
use Rattle.reg_supersede.specs.declared.fault.RefusedLine.{RefusedLine}
use Rattle.reg_supersede.specs.Lines.{words}
use Rattle.reg_supersede.specs.Lists.{Task, bodies_of, DoesFor}
use Rattle.reg_supersede.specs.Effects.{after, ids_of, AreSupersessions, has_pair, pair_cmp, ArePairs, CanMake, CanAdd, AddsFor, StepsOn}
use Rattle.reg_supersede.proofs.AfterLemmas.{of_list, more_of, merged_none, greatest_after, next_is, objections_more, ids_more, joins_more}
use Rattle.reg_supersede.proofs.PairLemmas.{supersessions_both}

pub all_supersede : (ps : List Pair) → AreSupersessions (bodies_of ps)
all_supersede [] = tt
all_supersede (p ∷ ps) = all_supersede ps

module _ (t : Task) (x : Content) (bs : List Body) where
  abbrev r : List ℕ
  r = t.replica

  abbrev here : Content
  here = after t x bs

  abbrev more : List Body → List Op
  more cs = more_of x t.replica t.note bs cs

  pub made_at : (cs : List Body) → note_fault t.note ≡ None → objections here (more cs) ≡ None → greatest r x.seen + length bs + length cs ≤ 4294967295 → made here r t.note cs ≡ Ok (more cs)
  made_at cs short none fit =
      let e = greatest_after x r t.note bs in
      let n = next_is x r t.note bs in
      subst (λ k. made here r t.note cs ≡ Ok (numbered r k t.note cs)) n
      (made_ok here r t.note cs short (subst (λ k. objections here (numbered r k t.note cs) ≡ None) (sym n) none) (omega arith))

  pub refused_at : (cs : List Body) (f : OfficeFault) → note_fault t.note ≡ None → objections here (more cs) ≡ Some f → made here r t.note cs ≡ Err f
  refused_at cs f short found = made_refused here r t.note cs f short (subst (λ k. objections here (numbered r k t.note cs) ≡ Some f) (sym (next_is x r t.note bs)) found)

  pub spent_at : (cs : List Body) → note_fault t.note ≡ None → objections here (more cs) ≡ None → 0 < length cs → 4294967295 < greatest r x.seen + length bs + length cs → made here r t.note cs ≡ Err fault.CountSpent
  spent_at cs short none some over =
      let e = greatest_after x r t.note bs in
      made_spent here r t.note cs short (subst (λ k. objections here (numbered r k t.note cs) ≡ None) (sym (next_is x r t.note bs)) none) some (omega arith)

  pub does_line : IsContent x → (cs : List Body) → CanAdd t x bs cs → Does here r t.note cs (after t x (bs ++ cs)) (map (λ (o : Op). o.id) (more cs))
  does_line is cs can = record {
    ops = more cs;
    are_made = made_at cs can.short can.none_refused can.fit;
    are_joined = joins_more x r t.note is bs cs;
    their_ids = refl;
  }

  pub can_more : IsContent x → (cs : List Body) → AreSupersessions cs → CanMake t x bs → CanAdd t x bs cs → CanMake t x (bs ++ cs)
  can_more is cs are make can =
      let both = length-append bs cs in
      let fit = can.fit in
      record {
        supersede = supersessions_both bs cs make.supersede are;
        none_refused = objections_more x r t.note is bs cs ∙ (λ k. else_next (make.none_refused k) (can.none_refused k));
        fit = omega arith;
      }

pub over_is : (a : ℕ) → nat_lt 4294967295 a ≡ true → 4294967295 < a
over_is a h = grind (arith, nat_tests)

-- ---- a line that is allowed

pub steps_on : (t : Task) (x : Content) (n : ℕ) (text : List ℕ) (bs new : List Body) (left : List RefusedLine) (ps : List Pair) → IsContent x → (ws : List (List ℕ)) → words text ≡ ws → AddsFor t x bs ws ps
    → new ≡ bs ++ bodies_of ps → StepsOn t x n text bs left new left
steps_on t x n text bs new left ps is [] same none e =
    let unchanged : new ≡ bs = e ∙ ap (λ l. bs ++ bodies_of l) none ∙ append-nil bs in
    inl ([], subst (λ l. DoesFor t (after t x bs) l (after t x new) []) (sym same) (ap (after t x) unchanged, refl), ap (ids_of t x) unchanged ∙ sym (append-nil (ids_of t x bs)), refl)
steps_on t x n text bs new left ps is (w ∷ []) same can e = absurd can
steps_on t x n text bs new left ps is (w ∷ v ∷ ws) same (olds, newer, s, u, lacks, can) e =
    let cs : List Body = bodies_of ps in
    let now : List Id = map (λ (o : Op). o.id) (more_of x t.replica t.note bs cs) in
    let does : DoesFor t (after t x bs) (w ∷ v ∷ ws) (after t x (bs ++ cs)) now =
    (olds, newer, s, u, subst (λ l. Does (after t x bs) t.replica t.note (bodies_of l) (after t x (bs ++ cs)) now) lacks (does_line t x bs is cs can)) in
    subst (λ l. StepsOn t x n text bs left l left) (sym e)
    (inl (now, subst (λ l. DoesFor t (after t x bs) l (after t x (bs ++ cs)) now) (sym same) does, ids_more x t.replica t.note bs cs, refl))

pub can_on : (t : Task) (x : Content) (bs new : List Body) (ps : List Pair) → IsContent x → CanMake t x bs → (ws : List (List ℕ)) → AddsFor t x bs ws ps → new ≡ bs ++ bodies_of ps → CanMake t x new
can_on t x bs new ps is make [] none e = subst (CanMake t x) (sym (e ∙ ap (λ l. bs ++ bodies_of l) none ∙ append-nil bs)) make
can_on t x bs new ps is make (w ∷ []) can e = absurd can
can_on t x bs new ps is make (w ∷ v ∷ ws) (olds, newer, s, u, lacks, can) e = subst (CanMake t x) (sym e) (can_more t x bs is (bodies_of ps) (all_supersede ps) make can)

-- ---- before any effect

greatest_fits : (r : List ℕ) (x : Content) → IsContent x → greatest r x.seen ≤ 4294967295
greatest_fits r x is = elim (cases_lt 0 (greatest r x.seen)) [
  | inl some ↦ let fits = (is.are_ids (id_at r (greatest r x.seen)) ((is_greatest r x.seen).there some)).fits in omega arith
  | inr none ↦ omega arith
]

pub can_none : (t : Task) (x : Content) (bs : List Body) → IsContent x → bs ≡ [] → CanMake t x bs
can_none t x bs is e = subst (CanMake t x) (sym e) (record { supersede = tt; none_refused = refl; fit = let fits = greatest_fits t.replica x is in omega arith })

-- ---- the content at the end

unless_is : (c : Option Id) (z y : Content) → joined_unless c z ≡ Ok y → y ≡ z
unless_is None z y h = cc
unless_is (Some id) z y h = cc

pub made_is : (t : Task) (x y : Content) (bs : List Body) (is : List Id) → Does x t.replica t.note bs y is → (y ≡ after t x bs) × (is ≡ ids_of t x bs)
made_is t x y bs is does =
    let ops = made_are x t.replica t.note bs does.ops does.are_made in (
      unless_is _ (merged x (state (of_list does.ops))) y does.are_joined ∙ ap (λ os. merged x (state (of_list os))) ops,
      does.their_ids ∙ ap (map (λ (o : Op). o.id)) ops,
    )

pub none_is : (t : Task) (x : Content) (bs : List Body) → IsContent x → length bs ≡ 0 → (x ≡ after t x bs) × ([] ≡ ids_of t x bs)
none_is t x [] is h = (sym (merged_none x is.is_kept), refl)
none_is t x (b ∷ bs) is h = absurd (omega arith)

-- ---- the pairs of the effects

pub then_eq : (a b : Ordering) → is_eq (ordering_then a b) ≡ (is_eq a && is_eq b)
then_eq Less b = refl
then_eq Equal b = refl
then_eq Greater b = refl

pub none_paired : (s : BTreeSet Pair) (bs : List Body) → s.keys ≡ [] → bs ≡ [] → ArePairs s bs
none_paired s bs none e old newer = (λ j. contains pair_cmp (record { keys = none j }) (record { old = old; newer = newer })) ∙ (λ j. has_pair (sym e j) old newer)

-- inserting a pair into the set appends its effect
pub pairs_more : (old new : BTreeSet Pair) (p : Pair) (bs : List Body) → ((q : Pair) → contains pair_cmp new q ≡ cond (is_eq (pair_cmp p q)) true (contains pair_cmp old q)) → ArePairs old bs → ArePairs new (bs ++ Supersede p.old p.newer ∷ [])
pairs_more old new p bs put are e m =
    let q : Pair = record { old = e; newer = m } in
    put q
    ∙ (λ k. cond (then_eq (id_cmp p.old e) (id_cmp p.newer m) k) true (are e m k))
    ∙ (λ k. cond ((eq_by_cmp_equiv id_total).symm p.old e k && (eq_by_cmp_equiv id_total).symm p.newer m k) true (has_pair bs e m))
    ∙ turned (is_same e p.old && is_same m p.newer) (has_pair bs e m)
    ∙ sym (list_any-append (is_supersession e (is_same m)) bs (Supersede p.old p.newer ∷ []))
  where
    turned : (a b : Bool) → cond a true b ≡ (b || (a || false))
    turned true true = refl
    turned true false = refl
    turned false true = refl
    turned false false = refl

pub bodies_more : (before bodies after : List Body) (ps : List Pair) (k : ℕ) (p : Pair) → k < length ps → p ≡ get_or ps k p → bodies ≡ before ++ bodies_of (take k ps) → after ≡ bodies ++ Supersede p.old p.newer ∷ []
    → after ≡ before ++ bodies_of (take (k + 1) ps)
bodies_more before bodies after ps k p h is so then =
    then ∙ ap (λ l. l ++ Supersede p.old p.newer ∷ []) so ∙ append_assoc before (bodies_of (take k ps)) (Supersede p.old p.newer ∷ [])
    ∙ ap (λ l. before ++ l) (sym (map-append (λ (q : Pair). Supersede q.old q.newer) (take k ps) (p ∷ [])) ∙ ap bodies_of ((λ j. take k ps ++ is j ∷ []) ∙ sym (take_more ps k p h)))
