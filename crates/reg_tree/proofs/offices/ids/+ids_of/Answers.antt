use Rattle.std.proofs.Common.{◌/◌, length}
use Rattle.reg_tree.proofs.OfficeLemmas.{ids_halves}
use Rattle.reg_tree.proofs.offices.ids.+ids_of.Goals as goal

pub returns : goal.returns
returns t c =
    ids_halves (length c.args.ops.now / 2) c.args.ops.now _ _ c.in_ok-left.left c.in_ok-right.right c.union.result c.split_at.ensures.front c.split_at.ensures.back c.in_ok-left.ensures
    c.in_ok-right.ensures c.union.ensures
