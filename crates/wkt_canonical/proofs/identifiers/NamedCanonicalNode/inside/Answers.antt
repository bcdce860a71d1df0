use Rattle.wkt_canonical.proofs.Nodes as nodes
use Rattle.wkt_canonical.proofs.identifiers.NamedCanonicalNode.inside.Goals as goal

pub returns : goal.returns
returns c = nodes.member c.in_ok-rest.ensures
