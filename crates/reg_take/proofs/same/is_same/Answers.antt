use Rattle.std.proofs.Common.{◌∙◌}
use Rattle.reg_take.proofs.SameLemmas.{content_then, content_else}
use Rattle.reg_take.proofs.same.is_same.Goals as goal

pub returns-then-are_same_ops : goal.returns-then-are_same_ops
returns-then-are_same_ops c =
    content_then c.args.left.now c.args.right.now c.as_slice.result.now c.as_slice-2.result.now c.seen.result.now c.seen-then-are_same_ops.result.now c.are_same_ops.result c.are_same_ids.result
    (c.as_slice.ensures ∙ c.ops.ensures.items) (c.as_slice-2.ensures ∙ c.ops-2.ensures.items) c.seen.ensures.value c.seen-then-are_same_ops.ensures.value
    c.are_same_ops.ensures c.if-are_same_ops.true c.are_same_ids.ensures

pub returns-else-are_same_ops : goal.returns-else-are_same_ops
returns-else-are_same_ops c =
    content_else c.args.left.now c.args.right.now c.as_slice.result.now c.as_slice-2.result.now c.are_same_ops.result
    (c.as_slice.ensures ∙ c.ops.ensures.items) (c.as_slice-2.ensures ∙ c.ops-2.ensures.items) c.are_same_ops.ensures c.if-are_same_ops.false
