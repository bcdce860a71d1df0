use Rattle.reg_export.proofs.ReadLemmas.{graph_read}
use Rattle.reg_export.proofs.laws.graph_is_read.Goals as goal

pub returns : goal.returns
returns c = graph_read
