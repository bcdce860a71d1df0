use Rattle.std.proofs.Common.{rules, sym, ap, ◌∙◌, arith}
use Rattle.std.specs.Ordering.{is_lt}
use Rattle.std.proofs.lemmas.List.Sorted.{IsPartitionPoint-from_clause}
use Rattle.std.proofs.lemmas.Option.{slice_get-get_or, slice_get_past}
use Rattle.reg_op.specs.Lists.{passes}
use Rattle.reg_op.proofs.PointLemmas.{parted, told}
use Rattle.reg_state.specs.MarkSets.{target_cmp}
use Rattle.reg_state.proofs.OrderLemmas.{IsBy, marks_far, below_low, found_there}
use Rattle.reg_state.proofs.mark_set.first_from.Goals as goal

pub returns-then-at-marks-clause-told : goal.returns-then-at-marks-clause-told
returns-then-at-marks-clause-told c = λ t begins.
    let target = c.args.target.now in
    let ms = c.args.marks.now in
    let far = marks_far ms c.requires in
    let point = IsPartitionPoint-from_clause (λ m. is_lt (target_cmp m.target target)) _ _ c.partition_point-at.ensures.partitioned
    (parted _ t IsBy ms far (below_low target)) (λ a r q k. search rules) in
    told (λ m. is_lt (target_cmp m.target target)) t IsBy ms far begins.from begins.down c.partition_point-at.result point
    ∙ ap (passes t) (slice_get-get_or ms c.partition_point-at.result c.index-marks-at.result c.if-at-marks.true)
    ∙ sym (ap t c.index-marks-at.is)

pub returns-then-at-marks-clause-there : goal.returns-then-at-marks-clause-there
returns-then-at-marks-clause-there c = found_there c.args.marks.now c.partition_point-at.result c.index-marks-at.result c.if-at-marks.true c.index-marks-at.is

pub returns-clause-told : goal.returns-clause-told
returns-clause-told c = λ t begins.
    let target = c.args.target.now in
    let ms = c.args.marks.now in
    let far = marks_far ms c.requires in
    let point = IsPartitionPoint-from_clause (λ m. is_lt (target_cmp m.target target)) _ _ c.partition_point-at.ensures.partitioned
    (parted _ t IsBy ms far (below_low target)) (λ a r q k. search rules) in
    told (λ m. is_lt (target_cmp m.target target)) t IsBy ms far begins.from begins.down c.partition_point-at.result point
    ∙ ap (passes t) (slice_get_past ms c.partition_point-at.result (omega arith))
