use Rattle.wkt_grammar.proofs.StillClean.{still_clean}
use Rattle.wkt_grammar.proofs.laws.still_clean.Goals as goal

pub returns : goal.returns
returns c = still_clean
