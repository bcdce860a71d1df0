use Rattle.byte_protocol.proofs.Left.{left_keeps}
use Rattle.byte_protocol.proofs.cuts.what_is_synced_stays.Goals as goal

pub returns : goal.returns
returns g = left_keeps
