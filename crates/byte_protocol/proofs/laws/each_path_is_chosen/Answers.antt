use Rattle.byte_protocol.proofs.Chosen.{all_paths}
use Rattle.byte_protocol.proofs.laws.each_path_is_chosen.Goals as goal

pub returns : goal.returns
returns g = all_paths
