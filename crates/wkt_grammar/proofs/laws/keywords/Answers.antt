use Rattle.wkt_grammar.proofs.Keywords.{keywords_are}
use Rattle.wkt_grammar.proofs.laws.keywords.Goals as goal

pub returns : goal.returns
returns c = keywords_are
