use Rattle.wkt_tree.proofs.Cuts.{one_cut}
use Rattle.wkt_tree.proofs.laws.one_cut.Goals as goal

pub returns : goal.returns
returns c = one_cut
