use Rattle.wkt_canonical.proofs.Nodes as nodes
use Rattle.wkt_canonical.proofs.usages.VerticalExtentCanonicalNode.inside.Goals as goal

pub returns : goal.returns
returns c = nodes.vertical_extent c.in_ok-rest.ensures c.in_ok-rest-2.ensures c.maybe_length_unit-rest.ensures c.in_ok-rest-3.ensures
