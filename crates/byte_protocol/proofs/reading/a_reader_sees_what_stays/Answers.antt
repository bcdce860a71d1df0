use Rattle.byte_protocol.proofs.Seen.{seen_kept}
use Rattle.byte_protocol.proofs.reading.a_reader_sees_what_stays.Goals as goal

pub returns : goal.returns
returns g = seen_kept
