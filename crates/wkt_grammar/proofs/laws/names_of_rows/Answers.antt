use Rattle.wkt_grammar.proofs.RowNames.{are_named}
use Rattle.wkt_grammar.proofs.laws.names_of_rows.Goals as goal

pub returns : goal.returns
returns c = are_named
