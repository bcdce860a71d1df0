use Rattle.crs_part.specs.declared.crs.GeodeticKind.TheVariants as kinds
use Rattle.wkt_canonical.proofs.Wholes as wholes
use Rattle.wkt_canonical.proofs.crs.base.Goals as goal

pub returns-in-Some : goal.returns-in-Some
returns-in-Some c = wholes.base_came kinds.Geographic c.in-Some.ensures c.in_ok-rest.ensures

pub returns : goal.returns
returns c = wholes.base_came kinds.Geodetic c.in_ok-inside.ensures c.in_ok-rest-2.ensures
