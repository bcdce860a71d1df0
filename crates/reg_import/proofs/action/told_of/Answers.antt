use Rattle.reg_state.specs.Runs.{id_at}
use Rattle.reg_import.specs.Index.{entries_seen}
use Rattle.reg_import.proofs.StepLemmas.{told_is}
use Rattle.reg_import.proofs.action.told_of.Goals as goal

pub returns : goal.returns
returns c = told_is c.args.differs (id_at c.args.replica c.args.count) (entries_seen c.args.entries.now) c.args.text.now.definition c.find-found.result c.told_found.result c.find-found.ensures c.told_found.ensures
