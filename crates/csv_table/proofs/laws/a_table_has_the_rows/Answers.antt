use Rattle.csv_table.proofs.LawLemmas.{table_of_rows}
use Rattle.csv_table.proofs.laws.a_table_has_the_rows.Goals as goal

pub returns : goal.returns
returns c rows text unmarked is = table_of_rows rows text unmarked is
