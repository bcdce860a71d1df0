use Rattle.wkt_canonical.proofs.Nodes as nodes
use Rattle.wkt_canonical.proofs.datums.EllipsoidCanonicalNode.inside.Goals as goal

pub returns : goal.returns
returns c = nodes.ellipsoid c.in_ok-rest.ensures c.in_ok-rest-2.ensures c.in_ok-rest-3.ensures c.maybe_length_unit-rest.ensures c.in_ok-rest-4.ensures c.in_ok-rest-5.ensures
