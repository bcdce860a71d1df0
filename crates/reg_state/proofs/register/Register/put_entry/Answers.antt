use Rattle.std.proofs.Common.{◌≡◌, true, sym, ap, ◌∙◌, subst}
use Rattle.reg_op.specs.Set as set
use Rattle.reg_op.specs.Operations.{one, ids, OneBody}
use Rattle.reg_op.specs.Contents.{Content, merged, state}
use Rattle.reg_op.proofs.OpLemmas.{op_total}
use Rattle.reg_state.proofs.PutLemmas.{put_at, put_tables}
use Rattle.reg_state.proofs.register.Register.put_entry.Goals as goal

pub put_op-requires-clause-absent : goal.put_op-requires-clause-absent
put_op-requires-clause-absent c = λ q h.
    c.requires.absent q (subst (λ (y : Content). set.contains y.ops q ≡ true) c.self.view_is (set.contains-from_list op_total c.self.inside.ops.items q ∙ h))

pub invariant_of-self-2 : goal.invariant_of-self-2
invariant_of-self-2 c =
    let o = c.args.op in
    let put = c.in_ok-put_op.ensures.put in
    put_tables c.self.inside.ops.items _ c.self.inside.marks c.self.inside.seen _ put.0 o c.self.invariant c.requires.operation c.requires.entry put.1 c.in_ok-put_op.ensures.by_id
    (c.requires.seen ∙ ap (λ (y : Content). set.union y.seen (ids (one o))) (sym c.self.view_is))
    (subst (λ (y : Content). OneBody (set.union y.ops (one o))) (sym c.self.view_is) c.requires.one_body)

pub returns-clause-ok : goal.returns-clause-ok
returns-clause-ok c =
    let o = c.args.op in
    let put = c.in_ok-put_op.ensures.put in
    put_at c.self.inside.ops.items _ c.self.inside.marks c.self.inside.seen _ put.0 o c.self.invariant c.requires.operation c.requires.entry put.1
    (c.requires.seen ∙ ap (λ (y : Content). set.union y.seen (ids (one o))) (sym c.self.view_is))
    ∙ ap (λ (y : Content). merged y (state (one o))) c.self.view_is
