use Rattle.reg_writers.proofs.PlaceLemmas.{writing}
use Rattle.reg_writers.proofs.steps.writing_is_a_step.Goals as goal

pub returns : goal.returns
returns g e = writing
