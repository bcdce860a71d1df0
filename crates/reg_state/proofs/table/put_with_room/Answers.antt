use Rattle.std.proofs.Common.{rules, ◌≡◌, true, false, List, sym, ap, ◌∙◌, subst}
use Rattle.std.specs.List.{insert}
use Rattle.std.proofs.lemmas.List.Sorted.{IsPartitionPoint-from_clause}
use Rattle.reg_op.specs.Ids.{is_same, is_before}
use Rattle.reg_op.specs.Operations.{Op}
use Rattle.reg_op.specs.Lists.{ById, has}
use Rattle.reg_op.proofs.PointLemmas.{parted}
use Rattle.reg_state.proofs.MergeLemmas.{IsUpTo, by_id_far, earlier_low}
use Rattle.reg_state.proofs.PutLemmas.{by_id_at}
use Rattle.reg_state.proofs.table.put_with_room.Goals as goal

pub returns-clause-by_id : goal.returns-clause-by_id
returns-clause-by_id c =
    let id = c.id-id.result in
    let o : Op = c.args.op in
    let at = c.partition_point-at.result in
    let os : List Op = c.deref.result.now in
    let same : c.args.ops.now.items ≡ os = sym c.deref.ensures.value in
    let up : ById os = subst ById same c.requires.by_id in
    let far = by_id_far os up in
    let items : c.insert.new.self.items ≡ insert c.args.ops.now.items at o = search rules in
    by_id_at at os _ o id up (subst (λ (l : List Op). (q : Op) → has l q ≡ true → is_same o.id q.id ≡ false) same c.requires.absent) c.id-id.ensures.value
    (items ∙ ap (λ (l : List Op). insert l at o) same)
    (IsPartitionPoint-from_clause (λ o. is_before o.id id) _ _ c.partition_point-at.ensures.partitioned (parted _ (λ (o : Op). true) IsUpTo os far (earlier_low id)) (λ a r q k. search rules))
