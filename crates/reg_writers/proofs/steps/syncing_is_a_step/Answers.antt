use Rattle.reg_writers.proofs.PlaceLemmas.{syncing}
use Rattle.reg_writers.proofs.steps.syncing_is_a_step.Goals as goal

pub returns : goal.returns
returns g e = syncing
