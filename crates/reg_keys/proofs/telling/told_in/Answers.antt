use Rattle.std.proofs.Common.{map}
use Rattle.reg_report.specs.Seen.{row_seen}
use Rattle.reg_keys.proofs.IndexLemmas.{tells_too, untold_too}
use Rattle.reg_keys.proofs.telling.told_in.Goals as goal

pub returns-in-Ok-told_by-clause-ok : goal.returns-in-Ok-told_by-clause-ok
returns-in-Ok-told_by-clause-ok c = λ rs is. tells_too c.args.word.now rs (map row_seen c.in-Ok.rows.now) (c.in-Ok.ensures rs is) c.in-Ok-told_by.ids.items c.in-Ok-told_by.ensures.ok

pub returns-in-Err-told_by-clause-fault : goal.returns-in-Err-told_by-clause-fault
returns-in-Err-told_by-clause-fault c = λ rs is. untold_too c.args.word.now rs (map row_seen c.in-Ok.rows.now) (c.in-Ok.ensures rs is) c.in-Err-told_by.fault c.in-Err-told_by.ensures.fault
