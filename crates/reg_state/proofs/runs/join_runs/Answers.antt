use Rattle.std.proofs.Common.{length, sym, ◌∙◌}
use Rattle.std.proofs.lemmas.Bool.{eqb-false}
use Rattle.reg_state.proofs.RunLemmas.{took_left, took_right, spent_right}
use Rattle.reg_state.proofs.runs.join_runs.Goals as goal
use Rattle.reg_state.proofs.runs.join_runs.Goals.{in_default, in_default-2}

pub loop-a-preserved-in_ok-push_run : goal.loop-a-preserved-in_ok-push_run
loop-a-preserved-in_ok-push_run c =
    let p = c.in_ok-push_run.ensures in
    took_left _ _ _ _ _ _ _ _ _ _ c.loop-a.invariant c.in-Some-Some.ensures.cases.0 c.in-Some-Some.ensures'.cases.0 c.if-begins_by.ensures.yes
    (record { runs = p.runs; covered = p.covered; order = p.order; ids = p.ids })

pub loop-a-preserved : goal.loop-a-preserved
loop-a-preserved c =
    let p = c.in_ok-push_run-2.ensures in
    took_right _ _ _ _ _ _ _ _ _ _ c.loop-a.invariant c.in-Some-Some.ensures.cases.0 c.in-Some-Some.ensures'.cases.0 c.if-begins_by.ensures.no
    (record { runs = p.runs; covered = p.covered; order = p.order; ids = p.ids })

pub returns-clause-covered : goal.returns-clause-covered
returns-clause-covered c =
    let some = eqb-false (length c.loop-a.lefts.now) 0 (sym c.is_empty.ensures ∙ c.if-is_empty.false) in
    elim c.match-split_first.branch [
      | in_default w ↦ spent_right _ _ _ _ _ _ c.loop-a.invariant w.in_default.ensures'.cases c.in_ok-push_runs-2.ensures.covered
      | in_default-2 w ↦ absurd (some w.in_default.ensures.cases)
    ]
