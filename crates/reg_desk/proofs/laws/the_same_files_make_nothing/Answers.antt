use Rattle.reg_desk.proofs.ImportedLemmas.{ready_again, unready_again}
use Rattle.reg_desk.proofs.laws.the_same_files_make_nothing.Goals as goal

pub returns-clause-nothing : goal.returns-clause-nothing
returns-clause-nothing c = ready_again

pub returns-clause-passes : goal.returns-clause-passes
returns-clause-passes c = unready_again
