use Rattle.byte_protocol.proofs.Paths.{stopped_path}
use Rattle.byte_protocol.proofs.laws.a_stop_is_a_path.Goals as goal

pub returns : goal.returns
returns g = stopped_path
