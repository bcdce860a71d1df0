use Rattle.std.proofs.Common.{rules, Some, sym, ap, ◌∙◌, arith}
use Rattle.std.proofs.lemmas.List.Sorted.{IsPartitionPoint-from_clause}
use Rattle.std.proofs.lemmas.Option.{slice_get-get_or, slice_get_past}
use Rattle.reg_op.specs.Ids.{is_same, is_before}
use Rattle.reg_op.specs.Operations.{Op}
use Rattle.reg_op.specs.Lists.{passes}
use Rattle.reg_op.proofs.PointLemmas.{parted, told}
use Rattle.reg_state.proofs.MergeLemmas.{IsUpTo, by_id_far, earlier_low, id_from, id_down}
use Rattle.reg_state.proofs.table.has_id.Goals as goal

pub returns-then-at-ops : goal.returns-then-at-ops
returns-then-at-ops c =
    let id = c.args.id in
    let t = λ (o : Op). is_same id o.id in
    let os = c.args.ops.now in
    let far = by_id_far os c.requires in
    let point = IsPartitionPoint-from_clause (λ o. is_before o.id id) _ _ c.partition_point-at.ensures.partitioned (parted _ t IsUpTo os far (earlier_low id)) (λ a r q k. search rules) in
    c.is_same.ensures
    ∙ ap (is_same id) (c.id.ensures.value)
    ∙ ap (passes t) (ap Some c.index-ops-at.is ∙ sym (slice_get-get_or os c.partition_point-at.result c.index-ops-at.result c.if-at-ops.true))
    ∙ sym (told (λ o. is_before o.id id) t IsUpTo os far (id_from id) (id_down id) c.partition_point-at.result point)

pub returns : goal.returns
returns c =
    let id = c.args.id in
    let t = λ (o : Op). is_same id o.id in
    let os = c.args.ops.now in
    let far = by_id_far os c.requires in
    let point = IsPartitionPoint-from_clause (λ o. is_before o.id id) _ _ c.partition_point-at.ensures.partitioned (parted _ t IsUpTo os far (earlier_low id)) (λ a r q k. search rules) in
    ap (passes t) (sym (slice_get_past os c.partition_point-at.result (omega arith)))
    ∙ sym (told (λ o. is_before o.id id) t IsUpTo os far (id_from id) (id_down id) c.partition_point-at.result point)
