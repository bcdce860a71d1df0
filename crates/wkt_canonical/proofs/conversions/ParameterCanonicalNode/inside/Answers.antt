use Rattle.wkt_canonical.proofs.Nodes as nodes
use Rattle.wkt_canonical.proofs.conversions.ParameterCanonicalNode.inside.Goals as goal

pub returns : goal.returns
returns c = nodes.parameter c.in_ok-rest.ensures c.in_ok-rest-2.ensures c.maybe_unit-rest.ensures c.in_ok-rest-3.ensures c.in_ok-rest-4.ensures
