use Rattle.std.proofs.Common.{◌≡◌, true, not, List, sym, ap, ◌∙◌, subst}
use Rattle.std.specs.List.{insert}
use Rattle.reg_op.specs.Set as set
use Rattle.reg_op.specs.Lists.{ById, has}
use Rattle.reg_op.specs.Operations.{Op, one, ids, OneBody, replaces}
use Rattle.reg_op.specs.Contents.{Content, merged, state}
use Rattle.reg_op.proofs.OpLemmas.{op_total}
use Rattle.reg_state.proofs.MarkJoin.{marks_with_one}
use Rattle.reg_state.proofs.MergeLemmas.{ById-filter}
use Rattle.reg_state.proofs.OneMoreLemmas.{one_more_at, one_more_tables, replaced_is, unreplaced_by, rest_has, put_kept, none_replaced}
use Rattle.reg_state.proofs.register.Register.put_mark.Goals as goal

pub invariant_of-self : goal.invariant_of-self
invariant_of-self c =
    let o = c.args.op in
    let xs = c.self.inside.ops.items in
    let ms = c.self.inside.marks in
    let v = c.self.inside.seen in
    one_more_tables xs xs ms ms v c.args.seen o c.self.invariant c.requires.operation
    (subst (λ (y : Content). OneBody (set.union y.ops (one o))) (sym c.self.view_is) c.requires.one_body)
    (replaced_is xs ms v o c.self.invariant (sym c.is_replaced.ensures ∙ c.if-is_replaced.true)) c.self.invariant.by_id c.self.invariant.marked
    (c.requires.seen ∙ ap (λ (y : Content). set.union y.seen (ids (one o))) (sym c.self.view_is))

pub returns-then-is_replaced-clause-ok : goal.returns-then-is_replaced-clause-ok
returns-then-is_replaced-clause-ok c =
    let o = c.args.op in
    let xs = c.self.inside.ops.items in
    let v = c.self.inside.seen in
    one_more_at xs xs v c.args.seen o (replaced_is xs c.self.inside.marks v o c.self.invariant (sym c.is_replaced.ensures ∙ c.if-is_replaced.true))
    (c.requires.seen ∙ ap (λ (y : Content). set.union y.seen (ids (one o))) (sym c.self.view_is))
    ∙ ap (λ (y : Content). merged y (state (one o))) c.self.view_is

pub remove_replaced-requires : goal.remove_replaced-requires
remove_replaced-requires c = λ no.
    let o = c.args.op in
    let xs = c.self.inside.ops.items in
    c.in_ok-reserve.ensures.items
    ∙ none_replaced xs c.self.inside.marks c.self.inside.seen o c.args.mark c.self.invariant c.requires.mark (sym c.has_covered-replaces.ensures ∙ no)
    ∙ ap (unreplaced_by o) (sym c.in_ok-reserve.ensures.items)

pub put_with_room-requires-clause-by_id : goal.put_with_room-requires-clause-by_id
put_with_room-requires-clause-by_id c =
    let o = c.args.op in
    subst ById (sym (c.remove_replaced.ensures.items ∙ ap (unreplaced_by o) c.in_ok-reserve.ensures.items))
    (ById-filter (λ (q : Op). not (replaces o q)) c.self.inside.ops.items c.self.invariant.by_id)

pub put_with_room-requires-clause-absent : goal.put_with_room-requires-clause-absent
put_with_room-requires-clause-absent c = λ q h.
    let o = c.args.op in
    let xs = c.self.inside.ops.items in
    c.requires.absent q
    (subst (λ (y : Content). set.contains y.ops q ≡ true) c.self.view_is
    (set.contains-from_list op_total xs q
    ∙ rest_has o xs q (subst (λ (l : List Op). has l q ≡ true) (c.remove_replaced.ensures.items ∙ ap (unreplaced_by o) c.in_ok-reserve.ensures.items) h)))

pub invariant_of-self-2 : goal.invariant_of-self-2
invariant_of-self-2 c =
    let o = c.args.op in
    let xs = c.self.inside.ops.items in
    let ms = c.self.inside.marks in
    let v = c.self.inside.seen in
    let put = c.put_with_room.ensures.put in
    let kept_is =
    put_kept xs _ ms v put.0 o c.self.invariant (sym c.is_replaced.ensures ∙ c.if-is_replaced.false)
    (put.1 ∙ ap (λ (l : List Op). insert l put.0 o) (c.remove_replaced.ensures.items ∙ ap (unreplaced_by o) c.in_ok-reserve.ensures.items)) in
    one_more_tables xs _ ms _ v c.args.seen o c.self.invariant c.requires.operation
    (subst (λ (y : Content). OneBody (set.union y.ops (one o))) (sym c.self.view_is) c.requires.one_body)
    kept_is c.put_with_room.ensures.by_id
    (marks_with_one xs _ ms _ o c.args.mark c.self.invariant.marked c.requires.mark kept_is c.in_ok-insert.ensures.ok)
    (c.requires.seen ∙ ap (λ (y : Content). set.union y.seen (ids (one o))) (sym c.self.view_is))

pub returns-clause-ok : goal.returns-clause-ok
returns-clause-ok c =
    let o = c.args.op in
    let xs = c.self.inside.ops.items in
    let ms = c.self.inside.marks in
    let v = c.self.inside.seen in
    let put = c.put_with_room.ensures.put in
    one_more_at xs _ v c.args.seen o
    (put_kept xs _ ms v put.0 o c.self.invariant (sym c.is_replaced.ensures ∙ c.if-is_replaced.false)
    (put.1 ∙ ap (λ (l : List Op). insert l put.0 o) (c.remove_replaced.ensures.items ∙ ap (unreplaced_by o) c.in_ok-reserve.ensures.items)))
    (c.requires.seen ∙ ap (λ (y : Content). set.union y.seen (ids (one o))) (sym c.self.view_is))
    ∙ ap (λ (y : Content). merged y (state (one o))) c.self.view_is
