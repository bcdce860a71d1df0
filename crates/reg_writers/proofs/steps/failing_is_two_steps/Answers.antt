use Rattle.reg_writers.proofs.PlaceLemmas.{failing}
use Rattle.reg_writers.proofs.steps.failing_is_two_steps.Goals as goal

pub returns : goal.returns
returns g e = failing
