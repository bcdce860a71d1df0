use Rattle.byte_protocol.proofs.Put.{bit_kept}
use Rattle.byte_protocol.proofs.laws.what_is_kept_stays.Goals as goal

pub returns : goal.returns
returns g = bit_kept
