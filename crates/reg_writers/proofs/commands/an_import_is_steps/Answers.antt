use Rattle.reg_writers.proofs.StepLemmas.{two_make}
use Rattle.reg_writers.proofs.commands.an_import_is_steps.Goals as goal

pub returns : goal.returns
returns c = λ x replica note differs keep_going readings m ts before links y ids i p. two_make x m y replica note note _ _ i.ids ids i.does p.does
