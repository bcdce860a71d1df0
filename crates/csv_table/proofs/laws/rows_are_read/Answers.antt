use Rattle.csv_table.proofs.LawLemmas.{read_all}
use Rattle.csv_table.proofs.laws.rows_are_read.Goals as goal

pub returns : goal.returns
returns c rows records are = read_all rows records are.0 are.1 are.2 are.3
