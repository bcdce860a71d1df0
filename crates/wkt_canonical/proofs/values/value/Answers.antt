use Rattle.wkt_canonical.proofs.Nodes as nodes
use Rattle.wkt_canonical.proofs.values.value.Goals as goal

pub returns : goal.returns
returns c = nodes.value c.in_ok-rest.ensures c.in_ok-rest-2.ensures
