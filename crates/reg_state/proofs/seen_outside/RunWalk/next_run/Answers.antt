use Rattle.std.proofs.Common.{◌≡◌, length, sym, ◌∙◌}
use Rattle.reg_state.proofs.OutsideLemmas.{none_first, take_last, take_before, take_front_of, pass_right, pass_front, pass_whole}
use Rattle.reg_state.proofs.seen_outside.RunWalk.next_run.Goals as goal
use Rattle.reg_state.proofs.seen_outside.RunWalk.next_run.Goals.{in_default, in_default-2}

pub returns-then-comes_before-2-clause-taken : goal.returns-then-comes_before-2-clause-taken
returns-then-comes_before-2-clause-taken c =
    take_before _ _ _ _ c.loop-first.invariant _ _ c.in-Some-Some.ensures.cases.0 _ c.from_count-run.ensures _ _ c.in-Some-Some.ensures'.cases.0
    (sym c.comes_before-else-comes_before.ensures ∙ c.if-comes_before-2.true) _ c.counted.ensures.low c.counted.ensures.lefts c.counted.ensures.rights

pub returns-then-run-other-clause-taken : goal.returns-then-run-other-clause-taken
returns-then-run-other-clause-taken c =
    take_front_of _ _ _ _ c.loop-first.invariant _ _ c.in-Some-Some.ensures.cases.0 _ c.from_count-run.ensures _ _ c.in-Some-Some.ensures'.cases.0
    (sym c.comes_before.ensures ∙ c.if-comes_before.false) (sym c.comes_before-else-comes_before.ensures ∙ c.if-comes_before-2.false)
    c.if-run-other.true _ c.counted-then-run-other.ensures.low c.counted-then-run-other.ensures.lefts c.counted-then-run-other.ensures.rights

pub loop-first-preserved-then-comes_before : goal.loop-first-preserved-then-comes_before
loop-first-preserved-then-comes_before c =
    pass_right _ _ _ _ c.loop-first.invariant _ _ c.in-Some-Some.ensures.cases.0 _ c.from_count-run.ensures _ _ c.in-Some-Some.ensures'.cases.0
    (sym c.comes_before.ensures ∙ c.if-comes_before.true)

pub loop-first-preserved-then-other-run : goal.loop-first-preserved-then-other-run
loop-first-preserved-then-other-run c =
    pass_front _ _ _ _ c.loop-first.invariant _ _ c.in-Some-Some.ensures.cases.0 _ c.from_count-run.ensures _ _ c.in-Some-Some.ensures'.cases.0
    (sym c.comes_before.ensures ∙ c.if-comes_before.false) (sym c.comes_before-else-comes_before.ensures ∙ c.if-comes_before-2.false)
    c.if-run-other.false c.if-other-run.true

pub loop-first-preserved : goal.loop-first-preserved
loop-first-preserved c =
    pass_whole _ _ _ _ c.loop-first.invariant _ _ c.in-Some-Some.ensures.cases.0 _ c.from_count-run.ensures _ _ c.in-Some-Some.ensures'.cases.0
    (sym c.comes_before.ensures ∙ c.if-comes_before.false) (sym c.comes_before-else-comes_before.ensures ∙ c.if-comes_before-2.false)
    c.if-run-other.false c.if-other-run.false

pub returns-clause-taken : goal.returns-clause-taken
returns-clause-taken c =
    let none : length c.loop-first.rights.now ≡ 0 = elim c.match-split_first.branch [ in_default w ↦ w.in_default.ensures'.cases | in_default-2 w ↦ absurd (none_first _ _ _ c.in-Some.ensures.cases.0 w.in_default.ensures.cases) ] in
    take_last _ _ _ _ c.loop-first.invariant _ _ c.in-Some.ensures.cases.0 _ c.from_count-run-2.ensures none _ c.counted-2.ensures.low c.counted-2.ensures.lefts c.counted-2.ensures.rights
