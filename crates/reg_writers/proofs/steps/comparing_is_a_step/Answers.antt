use Rattle.reg_writers.proofs.PlaceLemmas.{comparing}
use Rattle.reg_writers.proofs.steps.comparing_is_a_step.Goals as goal

pub returns : goal.returns
returns g e = comparing
