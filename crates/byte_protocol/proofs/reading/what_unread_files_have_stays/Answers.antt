use Rattle.byte_protocol.proofs.Seen.{unread_kept}
use Rattle.byte_protocol.proofs.reading.what_unread_files_have_stays.Goals as goal

pub returns : goal.returns
returns g = unread_kept
