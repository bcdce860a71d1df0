use Rattle.byte_protocol.proofs.Seen.{deeds_read}
use Rattle.byte_protocol.proofs.reading.who_has_read_is_read.Goals as goal

pub returns : goal.returns
returns g = deeds_read
