use Rattle.reg_import.proofs.AheadLemmas.{none_retired, none_superseded}
use Rattle.reg_import.proofs.laws.no_register_is_ahead.Goals as goal

pub returns-clause-retired : goal.returns-clause-retired
returns-clause-retired c = none_retired

pub returns-clause-superseded : goal.returns-clause-superseded
returns-clause-superseded c = none_superseded
