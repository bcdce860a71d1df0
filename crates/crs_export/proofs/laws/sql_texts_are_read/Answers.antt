use Rattle.crs_export.proofs.SqlLemmas.{read_back}
use Rattle.crs_export.proofs.laws.sql_texts_are_read.Goals as goal

pub returns : goal.returns
returns c = read_back
