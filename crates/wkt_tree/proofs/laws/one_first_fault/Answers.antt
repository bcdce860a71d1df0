use Rattle.wkt_tree.proofs.First
use Rattle.wkt_tree.proofs.laws.one_first_fault.Goals as goal

pub returns : goal.returns
returns c = First.one_first_fault
