use Rattle.wkt_canonical.proofs.Nodes as nodes
use Rattle.wkt_canonical.proofs.usages.BoundingBoxCanonicalNode.inside.Goals as goal

pub returns : goal.returns
returns c = nodes.bounding_box c.in_ok-rest.ensures c.in_ok-rest-2.ensures c.in_ok-rest-3.ensures c.in_ok-rest-4.ensures c.in_ok-rest-5.ensures
