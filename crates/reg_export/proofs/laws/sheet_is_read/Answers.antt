use Rattle.reg_export.proofs.SheetLemmas.{keys_read}
use Rattle.reg_export.proofs.laws.sheet_is_read.Goals as goal

pub returns : goal.returns
returns c = keys_read c.rows_are_read.ensures
