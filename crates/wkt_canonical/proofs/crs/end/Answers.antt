use Rattle.wkt_canonical.proofs.Wholes as wholes
use Rattle.wkt_canonical.proofs.crs.end.Goals as goal

pub returns : goal.returns
returns c = wholes.end _ c.in_ok-rest.ensures c.in_ok-identifier.ensures c.in_ok-rest-2.ensures c.in_ok-rest-3.ensures
