use Rattle.std.proofs.Common.{rules, Bool, ◌≡◌, ◌∷◌, ◌++◌, [], cond, ap, length, sym, ◌∙◌, subst}
use Rattle.std.proofs.lemmas.Bool.{eqb-false}
use Rattle.reg_op.specs.Lists.{AllAfter, ById}
use Rattle.reg_op.proofs.ClashLemmas.{same_id}
use Rattle.reg_state.proofs.MergeLemmas.{took_left, took_right, took_both, spent_left, spent_right, next_of, all_after, head_in, own_left, own_right, filter_on}
use Rattle.reg_state.proofs.merge.join_ops.Goals as goal
use Rattle.reg_state.proofs.merge.join_ops.Goals.{in_default, in_default-2}

pub loop-a-preserved-in_ok-push_kept : goal.loop-a-preserved-in_ok-push_kept
loop-a-preserved-in_ok-push_kept c =
    let is = c.comes_first.ensures in
    let next = next_of _ _ _ _ _ _ c.loop-a.invariant in
    let r = c.in-Some-Some.ensures'.cases.0 in
    let after = subst (AllAfter c.in-Some-Some.a.now.id) (sym r) (all_after c.in-Some-Some.a.now.id c.in-Some-Some.b.now c.in-Some-Some.right_rest.now (sym is ∙ c.if-comes_first.true) (subst ById r next.1)) in
    let a = c.in-Some-Some.a.now in
    let i = c.loop-a.invariant in
    let own = ap (λ (b : Bool). c.loop-a.out.items ++ cond b (a ∷ []) []) (own_left c.args.left_marks.now c.args.right_marks.now a (c.requires.left_kept a (i.left_part a (head_in _ _ a c.in-Some-Some.ensures.cases.0)))) in
    took_left _ _ _ _ _ _ _ _ _ c.loop-a.invariant c.in-Some-Some.ensures.cases.0 after (c.in_ok-push_kept.ensures ∙ own)

pub loop-a-preserved-in_ok-push_kept-2 : goal.loop-a-preserved-in_ok-push_kept-2
loop-a-preserved-in_ok-push_kept-2 c =
    let is = c.comes_first-else-comes_first.ensures in
    let next = next_of _ _ _ _ _ _ c.loop-a.invariant in
    let l = c.in-Some-Some.ensures.cases.0 in
    let after = subst (AllAfter c.in-Some-Some.b.now.id) (sym l) (all_after c.in-Some-Some.b.now.id c.in-Some-Some.a.now c.in-Some-Some.left_rest.now (sym is ∙ c.if-comes_first-2.true) (subst ById l next.0)) in
    let b = c.in-Some-Some.b.now in
    let i = c.loop-a.invariant in
    let own = ap (λ (t : Bool). c.loop-a.out.items ++ cond t (b ∷ []) []) (own_right c.args.left_marks.now c.args.right_marks.now b (c.requires.right_kept b (i.right_part b (head_in _ _ b c.in-Some-Some.ensures'.cases.0)))) in
    took_right _ _ _ _ _ _ _ _ _ c.loop-a.invariant c.in-Some-Some.ensures'.cases.0 after (c.in_ok-push_kept-2.ensures ∙ own)

pub loop-a-preserved : goal.loop-a-preserved
loop-a-preserved c =
    let is = c.comes_first.ensures in
    let js = c.comes_first-else-comes_first.ensures in
    let a = c.in-Some-Some.a.now in
    let i = c.loop-a.invariant in
    let own = ap (λ (b : Bool). c.loop-a.out.items ++ cond b (a ∷ []) []) (own_left c.args.left_marks.now c.args.right_marks.now a (c.requires.left_kept a (i.left_part a (head_in _ _ a c.in-Some-Some.ensures.cases.0)))) in
    took_both _ _ _ _ _ _ _ _ _ _ _ c.loop-a.invariant c.requires.agree c.in-Some-Some.ensures.cases.0 c.in-Some-Some.ensures'.cases.0
    (same_id _ _ (sym is ∙ c.if-comes_first.false) (sym js ∙ c.if-comes_first-2.false)) (c.in_ok-push_kept-3.ensures ∙ own)

pub returns-then-is_empty-clause-by_id : goal.returns-then-is_empty-clause-by_id
returns-then-is_empty-clause-by_id c =
    let none : length c.loop-a.lefts.now ≡ 0 = search rules in
    (spent_left _ _ _ _ _ _ _ c.loop-a.invariant none (c.in_ok-push_all_kept.ensures ∙ ap (λ xs. c.loop-a.out.items ++ xs) (filter_on _ _ c.loop-a.rights.now (λ q h. own_right c.args.left_marks.now c.args.right_marks.now q (c.requires.right_kept q (c.loop-a.invariant.right_part q h)))))).0

pub returns-then-is_empty-clause-covered : goal.returns-then-is_empty-clause-covered
returns-then-is_empty-clause-covered c =
    let none : length c.loop-a.lefts.now ≡ 0 = search rules in
    (spent_left _ _ _ _ _ _ _ c.loop-a.invariant none (c.in_ok-push_all_kept.ensures ∙ ap (λ xs. c.loop-a.out.items ++ xs) (filter_on _ _ c.loop-a.rights.now (λ q h. own_right c.args.left_marks.now c.args.right_marks.now q (c.requires.right_kept q (c.loop-a.invariant.right_part q h)))))).1

pub returns-clause-by_id : goal.returns-clause-by_id
returns-clause-by_id c =
    let some = eqb-false (length c.loop-a.lefts.now) 0 (sym c.is_empty.ensures ∙ c.if-is_empty.false) in
    elim c.match-split_first.branch [
      | in_default w ↦ (spent_right _ _ _ _ _ _ _ c.loop-a.invariant w.in_default.ensures'.cases (c.in_ok-push_all_kept-2.ensures ∙ ap (λ xs. c.loop-a.out.items ++ xs) (filter_on _ _ c.loop-a.lefts.now (λ q h. own_left c.args.left_marks.now c.args.right_marks.now q (c.requires.left_kept q (c.loop-a.invariant.left_part q h)))))).0
      | in_default-2 w ↦ absurd (some w.in_default.ensures.cases)
    ]

pub returns-clause-covered : goal.returns-clause-covered
returns-clause-covered c =
    let some = eqb-false (length c.loop-a.lefts.now) 0 (sym c.is_empty.ensures ∙ c.if-is_empty.false) in
    elim c.match-split_first.branch [
      | in_default w ↦ (spent_right _ _ _ _ _ _ _ c.loop-a.invariant w.in_default.ensures'.cases (c.in_ok-push_all_kept-2.ensures ∙ ap (λ xs. c.loop-a.out.items ++ xs) (filter_on _ _ c.loop-a.lefts.now (λ q h. own_left c.args.left_marks.now c.args.right_marks.now q (c.requires.left_kept q (c.loop-a.invariant.left_part q h)))))).1
      | in_default-2 w ↦ absurd (some w.in_default.ensures.cases)
    ]
