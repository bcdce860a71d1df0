use Rattle.byte_protocol.proofs.Paths.{followed}
use Rattle.byte_protocol.proofs.laws.paths_are_followed.Goals as goal

pub returns : goal.returns
returns g = followed
