use Rattle.reg_query.proofs.RowLemmas.{same_id}
use Rattle.reg_query.proofs.diff.change.is_same_id.Goals as goal

pub returns : goal.returns
returns c = same_id c.args.left.now c.args.right.now c.is_same.result c.is_same.ensures
