use Rattle.byte_protocol.proofs.Seen.{seen_whole}
use Rattle.byte_protocol.proofs.reading.a_reader_sees_a_whole_file.Goals as goal

pub returns : goal.returns
returns g = seen_whole
