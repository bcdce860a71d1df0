use Rattle.std.proofs.Common.{◌≡◌, ◌++◌, ◌⊎◌, inl, inr, List, length, sym, ap, ◌∙◌, subst}
use Rattle.reg_state.specs.declared.mark.Mark.{Mark}
use Rattle.reg_state.proofs.MarkMergeLemmas.{IsMerging, IsMerged, first_by, merging, merged_left, merged_right, merged_end}
use Rattle.reg_state.proofs.mark_set.merged_of.Goals as goal
use Rattle.reg_state.proofs.mark_set.merged_of.Goals.{in_default, in_default-2}

pub loop-a-init : goal.loop-a-init
loop-a-init c =
    subst (λ (xs : List Mark). IsMerging xs c.args.left.now c.args.right.now c.args.left.now c.args.right.now) (sym c.new-made.ensures.items)
    (merging c.args.left.now c.args.right.now c.requires.left c.requires.right)

pub loop-a-preserved-in_ok-push : goal.loop-a-preserved-in_ok-push
loop-a-preserved-in_ok-push c =
    merged_right _ _ _ _ _ _ _ _ _ _ c.loop-a.invariant c.in-Some-Some.ensures.cases.0 c.in-Some-Some.ensures'.cases.0
    (first_by c.in-Some-Some.a.now c.in-Some-Some.b.now (sym c.comes_first.ensures ∙ c.if-comes_first.true)) c.in_ok-push.ensures.items

pub loop-a-preserved : goal.loop-a-preserved
loop-a-preserved c =
    merged_left _ _ _ _ _ _ _ _ _ _ c.loop-a.invariant c.in-Some-Some.ensures.cases.0 c.in-Some-Some.ensures'.cases.0
    (sym c.comes_first.ensures ∙ c.if-comes_first.false) c.in_ok-push-2.ensures.items

pub returns : goal.returns
returns c =
    let spent : (length c.loop-a.lefts.now ≡ 0) ⊎ (length c.loop-a.rights.now ≡ 0) =
    elim c.match-split_first.branch [ in_default w ↦ inr w.in_default.ensures'.cases | in_default-2 w ↦ inl w.in_default.ensures.cases ] in
    let now : c.extend_from_slice-2.new.self.items ≡ (c.loop-a.made.items ++ c.loop-a.lefts.now) ++ c.loop-a.rights.now =
    c.in_ok-extend_from_slice-2.ensures.items ∙ ap (λ (xs : List Mark). xs ++ c.loop-a.rights.now) c.in_ok-extend_from_slice.ensures.items in
    let is : IsMerged c.extend_from_slice-2.new.self.items c.args.left.now c.args.right.now = merged_end _ _ _ _ _ _ c.loop-a.invariant spent now in
    record { sorted = is.sorted; covered = is.covered }
