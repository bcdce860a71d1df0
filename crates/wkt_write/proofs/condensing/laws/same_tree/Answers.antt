use Rattle.wkt_write.proofs.Rebuilding.{written_as}
use Rattle.wkt_write.proofs.condensing.laws.same_tree.Goals as goal

pub returns : goal.returns
returns c = written_as
