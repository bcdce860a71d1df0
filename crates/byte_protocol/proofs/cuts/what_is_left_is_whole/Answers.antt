use Rattle.byte_protocol.proofs.Left.{left_whole}
use Rattle.byte_protocol.proofs.cuts.what_is_left_is_whole.Goals as goal

pub returns : goal.returns
returns g = left_whole
