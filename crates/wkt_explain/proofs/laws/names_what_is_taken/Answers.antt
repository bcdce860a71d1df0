use Rattle.wkt_explain.proofs.NamedLemmas.{named}
use Rattle.wkt_explain.proofs.laws.names_what_is_taken.Goals as goal

pub returns : goal.returns
returns c = named
