use Rattle.reg_writers.proofs.PlaceLemmas.{putting, not_put}
use Rattle.reg_writers.proofs.steps.putting_is_a_step.Goals as goal

pub returns : goal.returns
returns g e = record { ok = putting; fault = not_put }
