use Rattle.std.proofs.Common.{rules, Some, sym, ap, ◌∙◌, arith}
use Rattle.std.proofs.lemmas.List.Sorted.{IsPartitionPoint-from_clause}
use Rattle.std.proofs.lemmas.Option.{slice_get-get_or, slice_get_past}
use Rattle.reg_op.specs.Lists.{passes}
use Rattle.reg_op.proofs.PointLemmas.{parted, told}
use Rattle.reg_state.specs.Runs.{is_in_run}
use Rattle.reg_state.proofs.SearchLemmas.{IsUpTo, runs_far, ends, ends_low, ends_from, ends_down}
use Rattle.reg_state.proofs.seen.is_covered.Goals as goal

pub returns-then-at-runs : goal.returns-then-at-runs
returns-then-at-runs c =
    let i = c.args.id.now in
    let rs = c.args.runs.now in
    let far = runs_far rs c.requires in
    let point = IsPartitionPoint-from_clause (ends i) _ _ c.partition_point-at.ensures.partitioned (parted _ (is_in_run i) IsUpTo rs far (ends_low i)) (λ a r q k. search rules) in
    c.has_id.ensures
    ∙ ap (passes (is_in_run i)) (ap Some c.index-runs-at.is ∙ sym (slice_get-get_or rs c.partition_point-at.result c.index-runs-at.result c.if-at-runs.true))
    ∙ sym (told (ends i) (is_in_run i) IsUpTo rs far (ends_from i) (ends_down i) c.partition_point-at.result point)

pub returns : goal.returns
returns c =
    let i = c.args.id.now in
    let rs = c.args.runs.now in
    let far = runs_far rs c.requires in
    let point = IsPartitionPoint-from_clause (ends i) _ _ c.partition_point-at.ensures.partitioned (parted _ (is_in_run i) IsUpTo rs far (ends_low i)) (λ a r q k. search rules) in
    ap (passes (is_in_run i)) (sym (slice_get_past rs c.partition_point-at.result (omega arith)))
    ∙ sym (told (ends i) (is_in_run i) IsUpTo rs far (ends_from i) (ends_down i) c.partition_point-at.result point)
