use Rattle.reg_writers.proofs.PlaceLemmas.{making}
use Rattle.reg_writers.proofs.steps.making_is_a_step.Goals as goal

pub returns : goal.returns
returns g e = making
