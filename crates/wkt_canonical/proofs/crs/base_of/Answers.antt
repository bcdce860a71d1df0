use Rattle.wkt_canonical.proofs.Wholes as wholes
use Rattle.wkt_canonical.proofs.crs.base_of.Goals as goal

pub returns : goal.returns
returns c = wholes.base _ c.in_ok-rest.ensures c.in_ok-rest-2.ensures c.in_ok-rest-3.ensures c.maybe_angle_unit-rest.ensures c.in_ok-rest-4.ensures c.in_ok-rest-5.ensures
