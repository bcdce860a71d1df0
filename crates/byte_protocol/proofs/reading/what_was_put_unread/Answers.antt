use Rattle.byte_protocol.proofs.Seen.{was_unread}
use Rattle.byte_protocol.proofs.reading.what_was_put_unread.Goals as goal

pub returns : goal.returns
returns g = was_unread
