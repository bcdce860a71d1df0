use Rattle.std.proofs.lemmas.List.{take_rest}
use Rattle.reg_query.proofs.SeenLemmas.{part_of_runs}
use Rattle.reg_query.proofs.figures.counting.runs_of.Goals as goal

pub returns : goal.returns
returns c = part_of_runs c.args.replica c.args.runs.now c.runs_below-low.result c.requires c.runs_below-low.ensures.bound c.runs_below-low.ensures.point _ c.leading_runs-count.result (take_rest c.args.runs.now c.runs_below-low.result) c.leading_runs-count.ensures
