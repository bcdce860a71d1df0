use Rattle.wkt_canonical.proofs.Nodes as nodes
use Rattle.wkt_canonical.proofs.datums.PrimeMeridianCanonicalNode.inside.Goals as goal

pub returns : goal.returns
returns c = nodes.prime_meridian c.in_ok-rest.ensures c.in_ok-rest-2.ensures c.maybe_angle_unit-rest.ensures c.in_ok-rest-3.ensures c.in_ok-rest-4.ensures
