use Rattle.wkt_write.proofs.Rebuilding.{read_as}
use Rattle.wkt_write.proofs.condensing.laws.same_reading.Goals as goal

pub returns : goal.returns
returns c = read_as
