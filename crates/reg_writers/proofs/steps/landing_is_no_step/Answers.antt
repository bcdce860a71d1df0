use Rattle.reg_writers.proofs.PlaceLemmas.{landing}
use Rattle.reg_writers.proofs.steps.landing_is_no_step.Goals as goal

pub returns : goal.returns
returns g e = landing
