use Rattle.crs_export.proofs.LineLemmas.{sql_read, rows_read}
use Rattle.crs_export.proofs.laws.inserts_are_read.Goals as goal

pub returns : goal.returns
returns c = record { entries = sql_read; rows = rows_read }
