use Rattle.std.proofs.Common.{◌≡◌, ◌+◌, ◌-◌, ◌<◌, Err, sym, ap, ◌∙◌, subst, length}
use Rattle.reg_op.specs.Set as set
use Rattle.reg_op.specs.Operations.{op_cmp}
use Rattle.reg_op.specs.Contents.{joined}
use Rattle.reg_op.specs.Lists.{ById}
use Rattle.reg_state.proofs.TableLemmas.{ok_not_err}
use Rattle.reg_office.specs.Making.{numbered, greatest}
use Rattle.reg_office.proofs.NumberLemmas.{numbered_by_id, run_of_numbered, numbers_join}
use Rattle.reg_import.proofs.NumberedLemmas.{same_length}
use Rattle.reg_import.proofs.making.joined.Goals as goal

pub register_of-requires-clause-by_id : goal.register_of-requires-clause-by_id
register_of-requires-clause-by_id c = subst ById (sym c.requires.ops.1.1) (numbered_by_id c.args.replica c.args.first c.requires.ops.0 c.requires.ops.1.0)

pub register_of-requires-clause-ids : goal.register_of-requires-clause-ids
register_of-requires-clause-ids c =
    let long = same_length c.args.replica c.args.first c.requires.ops.0 c.requires.ops.1.0 c.args.ops.items c.requires.ops.1.1 in
    run_of_numbered c.args.replica c.args.first _ c.requires.ops.0 c.requires.ops.1.0 c.args.ops.items (subst (λ k. 0 < k) long c.requires.some) (ap (λ k. c.args.first + (k - 1)) (c.count_of.ensures ∙ ap length c.deref.ensures.value ∙ long)) c.requires.ops.1.1

pub unreachable-requires : goal.unreachable-requires
unreachable-requires c =
    let x = c.args.register.now in
    let r = c.args.replica in
    let note = c.requires.ops.0 in
    let bs = c.requires.ops.1.0 in
    let same : set.from_list {R = op_cmp} c.args.ops.items ≡ set.from_list (numbered r (greatest r x.seen + 1) note bs) =
    ap set.from_list c.requires.ops.1.1 ∙ (λ k. set.from_list (numbered r (c.requires.first k) note bs)) in
    ok_not_err _ c.in-Err-Clash.field-0-0 (sym (numbers_join x r note bs c.seen-content.ensures.content (set.from_list c.args.ops.items) same)
    ∙ ap (joined x) (sym c.in_ok-fresh.ensures)
    ∙ (c.join.ensures.clash c.in-Err-Clash.field-0-0).0 (c.in-Err-Clash.is ∙ ap Err c.in-Err-Clash.field-0-is))
