use Rattle.byte_protocol.proofs.Kept.{whole}
use Rattle.byte_protocol.proofs.laws.out_is_whole.Goals as goal

pub returns : goal.returns
returns g = whole
