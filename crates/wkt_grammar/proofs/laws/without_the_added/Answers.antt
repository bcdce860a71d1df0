use Rattle.wkt_grammar.proofs.Editions.{rows_without}
use Rattle.wkt_grammar.proofs.laws.without_the_added.Goals as goal

pub returns : goal.returns
returns c = rows_without
