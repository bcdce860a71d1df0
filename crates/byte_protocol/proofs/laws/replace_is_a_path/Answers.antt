use Rattle.byte_protocol.proofs.Paths.{replaced_path}
use Rattle.byte_protocol.proofs.laws.replace_is_a_path.Goals as goal

pub returns : goal.returns
returns g = replaced_path
