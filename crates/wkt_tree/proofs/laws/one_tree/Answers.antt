use Rattle.wkt_tree.proofs.OneTree
use Rattle.wkt_tree.proofs.laws.one_tree.Goals as goal

pub returns : goal.returns
returns c = OneTree.one_tree
