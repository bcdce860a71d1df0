use Rattle.std.proofs.Common.{◌∙◌, ap, map, subst}
use Rattle.reg_report.specs.Seen.{row_seen}
use Rattle.reg_keys.specs.Named.{StandsFor, IsObjection}
use Rattle.reg_keys.proofs.naming.named_one.Goals as goal

pub returns-in-Ok-entry_of-clause-ok : goal.returns-in-Ok-entry_of-clause-ok
returns-in-Ok-entry_of-clause-ok c = subst (λ rs. StandsFor rs c.args.word.now c.in-Ok-entry_of.id) (ap (map row_seen) c.deref.ensures.value ∙ c.in-Ok.ensures.rows) c.in-Ok-entry_of.ensures.ok

pub returns-clause-fault : goal.returns-clause-fault
returns-clause-fault c = subst (λ rs. IsObjection rs c.args.word.now c.in-Err-entry_of.fault) (ap (map row_seen) c.deref.ensures.value ∙ c.in-Ok.ensures.rows) c.in-Err-entry_of.ensures.fault
