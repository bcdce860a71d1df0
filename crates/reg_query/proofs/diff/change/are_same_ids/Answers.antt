use Rattle.std.proofs.Common.{ap, ◌∙◌}
use Rattle.std.specs.Ordering.{is_eq}
use Rattle.reg_query.proofs.RowLemmas.{same_ids}
use Rattle.reg_query.proofs.diff.change.are_same_ids.Goals as goal

pub returns : goal.returns
returns c = same_ids c.args.left.now c.args.right.now c.is_eq.result (c.is_eq.ensures ∙ ap is_eq c.cmp.ensures)
