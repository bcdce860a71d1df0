use Rattle.wkt_grammar.proofs.Tables.{decides}
use Rattle.wkt_grammar.proofs.laws.slot_decides.Goals as goal

pub returns : goal.returns
returns c = decides
