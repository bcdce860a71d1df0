use Rattle.std.proofs.Common.{sym, ◌∙◌}
use Rattle.reg_op.proofs.ClashLemmas.{same_id}
use Rattle.reg_state.proofs.MergeLemmas.{clash_left, clash_right, clash_both, clash_start, clash_end, ById-rest}
use Rattle.reg_state.proofs.table.first_clash.Goals as goal
use Rattle.reg_state.proofs.table.first_clash.Goals.{in_default, in_default-2}

pub loop-a-preserved-then-comes_first : goal.loop-a-preserved-then-comes_first
loop-a-preserved-then-comes_first c =
    let is = c.comes_first.ensures in
    let i = c.loop-a.invariant in
    let l = c.in-Some-Some.ensures.cases.0 in
    record { left = ById-rest _ _ _ l i.left; right = i.right; same = clash_left _ _ _ _ _ _ l c.in-Some-Some.ensures'.cases.0 i.right (sym is ∙ c.if-comes_first.true) ∙ i.same }

pub loop-a-preserved-then-comes_first-2 : goal.loop-a-preserved-then-comes_first-2
loop-a-preserved-then-comes_first-2 c =
    let is = c.comes_first-else-comes_first.ensures in
    let i = c.loop-a.invariant in
    let r = c.in-Some-Some.ensures'.cases.0 in
    record { left = i.left; right = ById-rest _ _ _ r i.right; same = clash_right _ _ _ _ _ _ c.in-Some-Some.ensures.cases.0 r i.left (sym is ∙ c.if-comes_first-2.true) ∙ i.same }

pub loop-a-preserved : goal.loop-a-preserved
loop-a-preserved c =
    let is = c.comes_first.ensures in
    let js = c.comes_first-else-comes_first.ensures in
    let i = c.loop-a.invariant in
    let l = c.in-Some-Some.ensures.cases.0 in
    let r = c.in-Some-Some.ensures'.cases.0 in
    record {
      left = ById-rest _ _ _ l i.left;
      right = ById-rest _ _ _ r i.right;
      same = clash_both _ _ _ _ _ _ l r i.left i.right (same_id _ _ (sym is ∙ c.if-comes_first.false) (sym js ∙ c.if-comes_first-2.false)) (sym c.clashes.ensures ∙ c.if-clashes.false) ∙ i.same;
    }

pub returns : goal.returns
returns c =
    elim c.match-split_first.branch [
      | in_default w ↦ clash_end _ _ w.in_default.ensures'.cases ∙ c.loop-a.invariant.same
      | in_default-2 w ↦ clash_start _ _ w.in_default.ensures.cases ∙ c.loop-a.invariant.same
    ]
