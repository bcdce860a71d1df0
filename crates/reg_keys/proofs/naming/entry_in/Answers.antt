use Rattle.std.proofs.Common.{map}
use Rattle.reg_report.specs.Seen.{row_seen}
use Rattle.reg_keys.proofs.IndexLemmas.{stands_too, objects_too}
use Rattle.reg_keys.proofs.naming.entry_in.Goals as goal

pub returns-in-Ok-entry_of-clause-ok : goal.returns-in-Ok-entry_of-clause-ok
returns-in-Ok-entry_of-clause-ok c = λ rs is. stands_too c.args.word.now rs (map row_seen c.in-Ok.rows.now) (c.in-Ok.ensures rs is) c.in-Ok-entry_of.id c.in-Ok-entry_of.ensures.ok

pub returns-in-Err-entry_of-clause-fault : goal.returns-in-Err-entry_of-clause-fault
returns-in-Err-entry_of-clause-fault c = λ rs is. objects_too c.args.word.now rs (map row_seen c.in-Ok.rows.now) (c.in-Ok.ensures rs is) c.in-Err-entry_of.fault c.in-Err-entry_of.ensures.fault
