use Rattle.wkt_canonical.proofs.Nodes as nodes
use Rattle.wkt_canonical.proofs.conversions.ConversionCanonicalNode.inside.Goals as goal

pub returns : goal.returns
returns c = nodes.conversion c.in_ok-rest.ensures c.in_ok-rest-2.ensures c.in_ok-rest-3.ensures c.in_ok-rest-4.ensures c.in_ok-rest-5.ensures
