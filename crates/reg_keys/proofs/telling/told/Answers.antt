use Rattle.reg_op.specs.Rows.{rows}
use Rattle.reg_keys.proofs.ToldLemmas.{no_memory}
use Rattle.reg_keys.proofs.telling.told.Goals as goal

pub returns-in-Err-clause-fault : goal.returns-in-Err-clause-fault
returns-in-Err-clause-fault c = no_memory (rows c.args.register.now.ops) _
