use Rattle.csv_table.proofs.HiddenLemmas.{cell_hides_nothing}
use Rattle.csv_table.proofs.laws.nothing_hidden_is_shown.Goals as goal

pub returns : goal.returns
returns c = cell_hides_nothing
