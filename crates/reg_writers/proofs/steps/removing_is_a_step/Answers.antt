use Rattle.reg_writers.proofs.PlaceLemmas.{removing}
use Rattle.reg_writers.proofs.steps.removing_is_a_step.Goals as goal

pub returns : goal.returns
returns g = removing
