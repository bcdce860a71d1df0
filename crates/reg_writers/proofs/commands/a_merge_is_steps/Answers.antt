use Rattle.reg_writers.proofs.StepLemmas.{merge_reaches}
use Rattle.reg_writers.proofs.commands.a_merge_is_steps.Goals as goal

pub returns : goal.returns
returns c = merge_reaches
