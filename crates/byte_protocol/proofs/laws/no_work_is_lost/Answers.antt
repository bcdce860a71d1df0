use Rattle.byte_protocol.proofs.Kept.{follows_changes}
use Rattle.byte_protocol.proofs.laws.no_work_is_lost.Goals as goal

pub returns : goal.returns
returns g = follows_changes
