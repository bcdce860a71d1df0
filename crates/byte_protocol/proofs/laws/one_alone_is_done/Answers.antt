use Rattle.byte_protocol.proofs.Sample.{alone_is_done}
use Rattle.byte_protocol.proofs.laws.one_alone_is_done.Goals as goal

pub returns : goal.returns
returns g = alone_is_done
