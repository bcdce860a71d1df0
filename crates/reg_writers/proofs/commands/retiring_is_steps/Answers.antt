use Rattle.reg_writers.proofs.StepLemmas.{retiring_reaches}
use Rattle.reg_writers.proofs.commands.retiring_is_steps.Goals as goal

pub returns : goal.returns
returns c = retiring_reaches
