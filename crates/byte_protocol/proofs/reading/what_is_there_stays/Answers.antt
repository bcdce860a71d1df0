use Rattle.byte_protocol.proofs.Seen.{bit_stays}
use Rattle.byte_protocol.proofs.reading.what_is_there_stays.Goals as goal

pub returns : goal.returns
returns g = bit_stays
