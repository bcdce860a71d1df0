use Rattle.std.proofs.Common.{map, length, ap, sym, ◌∙◌, ◌⊎◌, ◌≡◌, inl, inr}
use Rattle.reg_report.specs.Seen.{row_seen}
use Rattle.reg_query.specs.ChangesSeen.{change_seen}
use Rattle.reg_query.proofs.WalkLemmas.{walk_start, walk_gone, walk_come, walk_both, walk_done}
use Rattle.reg_query.proofs.diff.walk.changes.Goals as goal
use Rattle.reg_query.proofs.diff.walk.changes.Goals.{in_default, in_default-2}

pub loop-gone-init : goal.loop-gone-init
loop-gone-init c = walk_start _ _ _ (ap (map change_seen) c.new-made.ensures.items) c.requires.old c.requires.new

pub loop-gone-preserved-in_ok-push-in-Less : goal.loop-gone-preserved-in_ok-push-in-Less
loop-gone-preserved-in_ok-push-in-Less c = walk_gone _ _ _ _ _ _ _ _ _ _ (ap (map row_seen) c.in-Some-Some.ensures.cases.0) (ap (map row_seen) c.in-Some-Some.ensures'.cases.0) (sym c.order.ensures ∙ c.in-Less.is) c.in_ok-push-in-Less.ensures c.loop-gone.invariant

pub loop-gone-preserved-in_ok-push-in-Greater : goal.loop-gone-preserved-in_ok-push-in-Greater
loop-gone-preserved-in_ok-push-in-Greater c = walk_come _ _ _ _ _ _ _ _ _ _ (ap (map row_seen) c.in-Some-Some.ensures.cases.0) (ap (map row_seen) c.in-Some-Some.ensures'.cases.0) (sym c.order.ensures ∙ c.in-Greater.is) c.in_ok-push-in-Greater.ensures c.loop-gone.invariant

pub loop-gone-preserved : goal.loop-gone-preserved
loop-gone-preserved c = walk_both _ _ _ _ _ _ _ _ _ _ (ap (map row_seen) c.in-Some-Some.ensures.cases.0) (ap (map row_seen) c.in-Some-Some.ensures'.cases.0) (sym c.order.ensures ∙ c.in-Equal.is) c.in_ok-push_unlike-in-Equal.ensures c.loop-gone.invariant

pub returns : goal.returns
returns c =
    let over : (length c.loop-gone.olds.now ≡ 0) ⊎ (length c.loop-gone.news.now ≡ 0) = elim c.match-split_first.branch [ in_default w ↦ inr w.in_default.ensures'.cases | in_default-2 w ↦ inl w.in_default.ensures.cases ] in
    walk_done _ _ c.loop-gone.olds.now c.loop-gone.news.now _ _ _ over c.in_ok-push_all.ensures c.in_ok-push_all-2.ensures c.loop-gone.invariant
