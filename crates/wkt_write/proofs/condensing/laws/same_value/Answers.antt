use Rattle.wkt_write.proofs.Moving.{parts_moves}
use Rattle.wkt_write.proofs.condensing.laws.same_value.Goals as goal

pub returns : goal.returns
returns c = parts_moves
