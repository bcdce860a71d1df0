use Rattle.wkt_grammar.proofs.Tables.{lone_direction}
use Rattle.wkt_grammar.proofs.laws.direction_alone.Goals as goal

pub returns : goal.returns
returns c = lone_direction
