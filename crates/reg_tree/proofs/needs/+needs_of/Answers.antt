use Rattle.std.proofs.Common.{◌/◌, List, length, map, ap, subst, ◌∙◌}
use Rattle.reg_op.specs.Ids.{Ids}
use Rattle.reg_op.specs.Pieces.{Piece, IsHeld, part_of}
use Rattle.reg_state.specs.ManyLaws.{all_seen}
use Rattle.reg_tree.specs.Chain.{AllHeld}
use Rattle.reg_tree.proofs.Held.{held_halves, seen_halves}
use Rattle.reg_tree.proofs.needs.+needs_of.Goals as goal

pub returns-clause-basis : goal.returns-clause-basis
returns-clause-basis t c = λ seen h.
    let ps = c.args.pieces.now in
    let l = c.in_ok-left.left in
    let r = c.in_ok-right.right in
    held_halves (length ps / 2) ps l.basis r.basis l.seen seen
    (λ w k. subst (λ (qs : List Piece). AllHeld qs w) c.split_at.ensures.front (c.in_ok-left.ensures.basis w k))
    (λ w k. subst (λ (qs : List Piece). AllHeld qs w) c.split_at.ensures.back (c.in_ok-right.ensures.basis w k))
    (c.in_ok-left.ensures.seen ∙ ap (λ (qs : List Piece). all_seen (map part_of qs)) c.split_at.ensures.front)
    (subst (λ (b : Ids). IsHeld b seen) c.in_ok-basis.ensures h)

pub returns-clause-seen : goal.returns-clause-seen
returns-clause-seen t c =
    let ps = c.args.pieces.now in
    c.in_ok-seen.ensures
    ∙ seen_halves (length ps / 2) ps c.in_ok-left.left.seen c.in_ok-right.right.seen
    (c.in_ok-left.ensures.seen ∙ ap (λ (qs : List Piece). all_seen (map part_of qs)) c.split_at.ensures.front)
    (c.in_ok-right.ensures.seen ∙ ap (λ (qs : List Piece). all_seen (map part_of qs)) c.split_at.ensures.back)
