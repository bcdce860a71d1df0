use Rattle.wkt_grammar.proofs.Tables.{lone_kind}
use Rattle.wkt_grammar.proofs.laws.kind_alone.Goals as goal

pub returns : goal.returns
returns c = lone_kind
