use Rattle.wkt_compare.proofs.OneCut.{one_cut}
use Rattle.wkt_compare.proofs.splitting.laws.one_cut.Goals as goal

pub returns : goal.returns
returns c = one_cut
