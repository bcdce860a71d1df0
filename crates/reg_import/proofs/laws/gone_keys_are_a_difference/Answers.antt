use Rattle.reg_import.proofs.GoneLemmas.{gone_rows, gone_keys}
use Rattle.reg_import.proofs.laws.gone_keys_are_a_difference.Goals as goal

pub returns-clause-rows : goal.returns-clause-rows
returns-clause-rows c = gone_rows

pub returns-clause-keys : goal.returns-clause-keys
returns-clause-keys c = gone_keys
