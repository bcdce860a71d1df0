use Rattle.reg_page.proofs.ToldLemmas.{conflicts_said}
use Rattle.reg_page.proofs.laws.rows_say_conflicts.Goals as goal

pub returns : goal.returns
returns c = conflicts_said
