use Rattle.reg_import.proofs.LawLemmas.{exported_found, exported_pass, import_exported}
use Rattle.reg_import.proofs.laws.exported_texts_are_imported.Goals as goal

pub returns-clause-found : goal.returns-clause-found
returns-clause-found c = exported_found

pub returns-clause-passes : goal.returns-clause-passes
returns-clause-passes c = exported_pass

pub returns-clause-same : goal.returns-clause-same
returns-clause-same c = import_exported
