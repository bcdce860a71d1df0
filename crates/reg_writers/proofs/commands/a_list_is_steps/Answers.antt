use Rattle.reg_writers.proofs.StepLemmas.{list_reaches}
use Rattle.reg_writers.proofs.commands.a_list_is_steps.Goals as goal

pub returns : goal.returns
returns c = list_reaches
