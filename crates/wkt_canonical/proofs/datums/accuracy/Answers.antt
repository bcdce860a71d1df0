use Rattle.wkt_canonical.proofs.Nodes as nodes
use Rattle.wkt_canonical.proofs.datums.accuracy.Goals as goal

pub returns : goal.returns
returns c = nodes.accuracy c.in_ok-inside.ensures c.in_ok-rest.ensures c.in_ok-rest-2.ensures
