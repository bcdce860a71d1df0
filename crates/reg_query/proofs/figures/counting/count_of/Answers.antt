use Rattle.std.proofs.lemmas.List.{take_rest}
use Rattle.reg_query.proofs.OpsLemmas.{part_of_ops}
use Rattle.reg_query.proofs.figures.counting.count_of.Goals as goal

pub returns : goal.returns
returns c = part_of_ops c.args.replica c.args.ops.now c.ops_below-low.result c.requires c.ops_below-low.ensures.bound c.ops_below-low.ensures.point _ c.leading_ops.result (take_rest c.args.ops.now c.ops_below-low.result) c.leading_ops.ensures
