use Rattle.std.proofs.Common.{refl}
use Rattle.wkt_canonical.proofs.Wholes as wholes
use Rattle.wkt_canonical.proofs.crs.compound.Goals as goal

pub returns : goal.returns
returns c = wholes.compound _ refl c.in_ok-name.ensures c.in_ok-rest.ensures c.in_ok-first.ensures c.in_ok-rest-2.ensures c.in_ok-second.ensures c.if-not-first.false c.if-not-second.false c.in_ok-identifier.ensures
