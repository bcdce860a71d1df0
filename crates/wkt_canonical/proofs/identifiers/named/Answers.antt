use Rattle.wkt_canonical.proofs.Nodes as nodes
use Rattle.wkt_canonical.proofs.identifiers.named.Goals as goal

pub returns : goal.returns
returns c = nodes.named c.in_ok-rest.ensures c.in_ok-rest-2.ensures c.in_ok-rest-3.ensures
