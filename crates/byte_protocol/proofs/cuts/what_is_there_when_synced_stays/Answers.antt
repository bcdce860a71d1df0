use Rattle.byte_protocol.proofs.Left.{left_has}
use Rattle.byte_protocol.proofs.cuts.what_is_there_when_synced_stays.Goals as goal

pub returns : goal.returns
returns g = left_has
