use Rattle.std.proofs.Common.{map}
use Rattle.reg_report.specs.Seen.{row_seen}
use Rattle.reg_keys.proofs.IndexLemmas.{every_too, objects_too}
use Rattle.reg_keys.proofs.indexed.every_in.Goals as goal

pub returns-in-Ok-every_of-clause-ok : goal.returns-in-Ok-every_of-clause-ok
returns-in-Ok-every_of-clause-ok c = λ rs is. every_too c.args.word.now rs (map row_seen c.in-Ok.rows.now) (c.in-Ok.ensures rs is) c.in-Ok-every_of.ids.items c.in-Ok-every_of.ensures.ok

pub returns-in-Err-every_of-clause-fault : goal.returns-in-Err-every_of-clause-fault
returns-in-Err-every_of-clause-fault c = λ rs is. objects_too c.args.word.now rs (map row_seen c.in-Ok.rows.now) (c.in-Ok.ensures rs is) c.in-Err-every_of.fault c.in-Err-every_of.ensures.fault
