use Rattle.byte_protocol.proofs.Faults.{fault_path}
use Rattle.byte_protocol.proofs.laws.a_fault_is_a_path.Goals as goal

pub returns : goal.returns
returns g = fault_path
