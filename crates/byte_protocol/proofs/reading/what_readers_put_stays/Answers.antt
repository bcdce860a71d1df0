use Rattle.byte_protocol.proofs.Seen.{readers_keep}
use Rattle.byte_protocol.proofs.reading.what_readers_put_stays.Goals as goal

pub returns : goal.returns
returns g = readers_keep
