use Rattle.byte_protocol.proofs.Paths.{idle_are_fair}
use Rattle.byte_protocol.proofs.laws.idle_paths_are_fair.Goals as goal

pub returns : goal.returns
returns g = idle_are_fair
