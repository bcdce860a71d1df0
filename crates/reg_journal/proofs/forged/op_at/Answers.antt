use Rattle.std.proofs.Common.{rules, Some, sym, ap, ◌∙◌, arith}
use Rattle.std.proofs.lemmas.List.Sorted.{IsPartitionPoint-from_clause}
use Rattle.std.proofs.lemmas.Option.{slice_get-get_or, slice_get_past}
use Rattle.reg_op.specs.Ids.{is_same, is_before}
use Rattle.reg_op.specs.Operations.{Op}
use Rattle.reg_op.specs.Lists.{passes}
use Rattle.reg_op.proofs.PointLemmas.{parted, told}
use Rattle.reg_state.proofs.MergeLemmas.{IsUpTo, by_id_far, earlier_low, id_from, id_down}
use Rattle.reg_journal.proofs.ForgedLemmas.{found_op, none_op}
use Rattle.reg_journal.proofs.forged.op_at.Goals as goal

pub returns-then-at-ops-clause-found : goal.returns-then-at-ops-clause-found
returns-then-at-ops-clause-found c =
    found_op c.having.result (λ o. o.now) c.args.ops.now c.partition_point-at.result c.index-ops-at.result c.args.id c.if-at-ops.true (sym c.index-ops-at.is) c.having.ensures.found

pub returns-then-at-ops-clause-none : goal.returns-then-at-ops-clause-none
returns-then-at-ops-clause-none c =
    let id = c.args.id in
    let t = λ (o : Op). is_same id o.id in
    let os = c.args.ops.now in
    let far = by_id_far os c.requires in
    let point = IsPartitionPoint-from_clause (λ o. is_before o.id id) _ _ c.partition_point-at.ensures.partitioned (parted _ t IsUpTo os far (earlier_low id)) (λ a r q k. search rules) in
    none_op c.having.result (is_same id c.index-ops-at.result.id) _
    (told (λ o. is_before o.id id) t IsUpTo os far (id_from id) (id_down id) c.partition_point-at.result point
    ∙ ap (passes t) (slice_get-get_or os c.partition_point-at.result c.index-ops-at.result c.if-at-ops.true ∙ ap Some (sym c.index-ops-at.is)))
    c.having.ensures.none

pub returns-clause-none : goal.returns-clause-none
returns-clause-none c =
    let id = c.args.id in
    let t = λ (o : Op). is_same id o.id in
    let os = c.args.ops.now in
    let far = by_id_far os c.requires in
    let point = IsPartitionPoint-from_clause (λ o. is_before o.id id) _ _ c.partition_point-at.ensures.partitioned (parted _ t IsUpTo os far (earlier_low id)) (λ a r q k. search rules) in
    told (λ o. is_before o.id id) t IsUpTo os far (id_from id) (id_down id) c.partition_point-at.result point
    ∙ ap (passes t) (slice_get_past os c.partition_point-at.result (omega arith))
