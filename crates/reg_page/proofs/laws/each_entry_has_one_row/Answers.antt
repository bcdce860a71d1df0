use Rattle.reg_page.proofs.RowLemmas.{one_row}
use Rattle.reg_page.proofs.laws.each_entry_has_one_row.Goals as goal

pub returns : goal.returns
returns c = one_row
