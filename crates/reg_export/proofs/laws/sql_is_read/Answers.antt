use Rattle.reg_export.proofs.ReadLemmas.{proj_sql_read}
use Rattle.reg_export.proofs.laws.sql_is_read.Goals as goal

pub returns : goal.returns
returns c = proj_sql_read
