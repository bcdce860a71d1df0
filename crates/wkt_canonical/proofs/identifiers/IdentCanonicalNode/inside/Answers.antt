use Rattle.wkt_canonical.proofs.Codes as codes_of
use Rattle.wkt_canonical.proofs.identifiers.IdentCanonicalNode.inside.Goals as goal

pub returns : goal.returns
returns c = codes_of.any_identifier _ c.in_ok-rest.ensures
