use Rattle.reg_take.proofs.SameLemmas.{ids_then, ids_else}
use Rattle.reg_take.proofs.same.are_same_ids.Goals as goal

pub returns-then-is_none : goal.returns-then-is_none
returns-then-is_none c =
    ids_then c.args.left.now c.args.right.now c.first_outside.result c.first_outside-then-is_none.result c.is_none.result c.is_none-then-is_none.result
    c.first_outside.ensures c.first_outside-then-is_none.ensures c.is_none.ensures c.is_none-then-is_none.ensures c.if-is_none.true

pub returns-else-is_none : goal.returns-else-is_none
returns-else-is_none c = ids_else c.args.left.now c.args.right.now c.first_outside.result c.is_none.result c.first_outside.ensures c.is_none.ensures c.if-is_none.false
