use Rattle.reg_desk.proofs.ImportedLemmas.{exported_ready, exported_unmade}
use Rattle.reg_desk.proofs.laws.an_exported_file_is_imported.Goals as goal

pub returns-clause-same : goal.returns-clause-same
returns-clause-same c = exported_ready

pub returns-clause-passes : goal.returns-clause-passes
returns-clause-passes c = exported_unmade
