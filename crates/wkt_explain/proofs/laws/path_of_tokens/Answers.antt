use Rattle.wkt_explain.proofs.PathLemmas.{path_is}
use Rattle.wkt_explain.proofs.laws.path_of_tokens.Goals as goal

pub returns : goal.returns
returns c = path_is
