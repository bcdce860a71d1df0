use Rattle.byte_protocol.proofs.Put.{was_put}
use Rattle.byte_protocol.proofs.laws.replaced_what_it_read.Goals as goal

pub returns : goal.returns
returns g = was_put
