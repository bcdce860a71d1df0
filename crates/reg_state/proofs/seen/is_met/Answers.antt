use Rattle.std.proofs.Common.{rules, Some, sym, ap, ◌∙◌, arith}
use Rattle.std.proofs.lemmas.List.Sorted.{IsPartitionPoint-from_clause}
use Rattle.std.proofs.lemmas.Option.{slice_get-get_or, slice_get_past}
use Rattle.reg_op.specs.Lists.{passes}
use Rattle.reg_op.proofs.PointLemmas.{parted, told}
use Rattle.reg_state.specs.Runs.{first_of, overlap}
use Rattle.reg_state.proofs.SearchLemmas.{ends, ends_low}
use Rattle.reg_state.proofs.MeetLemmas.{AreUpTo, runs_up, meets_from, meets_down}
use Rattle.reg_state.proofs.seen.is_met.Goals as goal

pub returns-then-at-runs : goal.returns-then-at-runs
returns-then-at-runs c =
    let r = c.args.run.now in
    let rs = c.args.runs.now in
    let far = runs_up rs c.requires in
    let point = IsPartitionPoint-from_clause (ends (first_of r)) _ _ c.partition_point-at.ensures.partitioned (parted _ (overlap r) AreUpTo rs far (λ x y u. ends_low (first_of r) x y u.later)) (λ a r q k. search rules) in
    c.overlap.ensures
    ∙ ap (passes (overlap r)) (ap Some c.index-runs-at.is ∙ sym (slice_get-get_or rs c.partition_point-at.result c.index-runs-at.result c.if-at-runs.true))
    ∙ sym (told (ends (first_of r)) (overlap r) AreUpTo rs far (meets_from r) (meets_down r) c.partition_point-at.result point)

pub returns : goal.returns
returns c =
    let r = c.args.run.now in
    let rs = c.args.runs.now in
    let far = runs_up rs c.requires in
    let point = IsPartitionPoint-from_clause (ends (first_of r)) _ _ c.partition_point-at.ensures.partitioned (parted _ (overlap r) AreUpTo rs far (λ x y u. ends_low (first_of r) x y u.later)) (λ a r q k. search rules) in
    ap (passes (overlap r)) (sym (slice_get_past rs c.partition_point-at.result (omega arith)))
    ∙ sym (told (ends (first_of r)) (overlap r) AreUpTo rs far (meets_from r) (meets_down r) c.partition_point-at.result point)
