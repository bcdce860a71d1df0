use Rattle.wkt_compare.proofs.Found.{printed_found}
use Rattle.wkt_compare.proofs.splitting.laws.written_are_found.Goals as goal

pub returns : goal.returns
returns c = printed_found
