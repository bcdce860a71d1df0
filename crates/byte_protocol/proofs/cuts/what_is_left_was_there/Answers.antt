use Rattle.byte_protocol.proofs.Left.{left_since}
use Rattle.byte_protocol.proofs.cuts.what_is_left_was_there.Goals as goal

pub returns : goal.returns
returns g = left_since
