use Rattle.std.proofs.Common.{rules, ◌&&◌, Some, sym, ap, ◌∙◌, arith}
use Rattle.std.proofs.lemmas.List.Sorted.{IsPartitionPoint-from_clause}
use Rattle.std.proofs.lemmas.Option.{slice_get-get_or, slice_get_past}
use Rattle.reg_op.specs.Ids.{is_same, is_before}
use Rattle.reg_op.specs.Operations.{Op}
use Rattle.reg_op.specs.Status.{is_enter}
use Rattle.reg_op.specs.Kept.{entering}
use Rattle.reg_op.specs.Lists.{passes}
use Rattle.reg_op.proofs.PointLemmas.{parted, told}
use Rattle.reg_state.proofs.MergeLemmas.{IsUpTo, by_id_far, earlier_low, entry_from, entry_down}
use Rattle.reg_state.proofs.TableLemmas.{found_at}
use Rattle.reg_state.proofs.table.definition_in.Goals as goal

pub returns-then-at-ops-clause-told : goal.returns-then-at-ops-clause-told
returns-then-at-ops-clause-told c =
    let id = c.args.id in
    let t = λ (o : Op). is_same id o.id && is_enter o.body in
    let os = c.args.ops.now in
    let far = by_id_far os c.requires in
    let point = IsPartitionPoint-from_clause (λ o. is_before o.id id) _ _ c.partition_point-at.ensures.partitioned (parted _ t IsUpTo os far (earlier_low id)) (λ a r q k. search rules) in
    c.definition_of.ensures.told
    ∙ ap (passes t) (ap Some c.index-ops-at.is ∙ sym (slice_get-get_or os c.partition_point-at.result c.index-ops-at.result c.if-at-ops.true))
    ∙ sym (told (λ o. is_before o.id id) t IsUpTo os far (entry_from id (λ o. is_enter o.body)) (entry_down id (λ o. is_enter o.body)) c.partition_point-at.result point)

pub returns-then-at-ops-clause-found : goal.returns-then-at-ops-clause-found
returns-then-at-ops-clause-found c =
    found_at (λ d note. entering c.args.id d.now note) c.args.ops.now c.partition_point-at.result c.index-ops-at.result c.if-at-ops.true (sym c.index-ops-at.is) c.definition_of.result c.definition_of.ensures.found

pub returns-clause-told : goal.returns-clause-told
returns-clause-told c =
    let id = c.args.id in
    let t = λ (o : Op). is_same id o.id && is_enter o.body in
    let os = c.args.ops.now in
    let far = by_id_far os c.requires in
    let point = IsPartitionPoint-from_clause (λ o. is_before o.id id) _ _ c.partition_point-at.ensures.partitioned (parted _ t IsUpTo os far (earlier_low id)) (λ a r q k. search rules) in
    ap (passes t) (sym (slice_get_past os c.partition_point-at.result (omega arith)))
    ∙ sym (told (λ o. is_before o.id id) t IsUpTo os far (entry_from id (λ o. is_enter o.body)) (entry_down id (λ o. is_enter o.body)) c.partition_point-at.result point)
