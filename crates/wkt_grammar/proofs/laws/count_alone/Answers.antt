use Rattle.wkt_grammar.proofs.Tables.{lone_count}
use Rattle.wkt_grammar.proofs.laws.count_alone.Goals as goal

pub returns : goal.returns
returns c = lone_count
