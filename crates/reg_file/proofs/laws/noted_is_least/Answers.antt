use Rattle.reg_file.proofs.NotedLemmas.{noted_least, noted_none}
use Rattle.reg_file.proofs.laws.noted_is_least.Goals as goal

pub returns-clause-least : goal.returns-clause-least
returns-clause-least c = noted_least

pub returns-clause-none : goal.returns-clause-none
returns-clause-none c = noted_none
