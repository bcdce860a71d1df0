use Rattle.wkt_canonical.proofs.UnitKinds as units
use Rattle.wkt_canonical.proofs.units.angle_unit.Goals as goal

pub returns-in-Some : goal.returns-in-Some
returns-in-Some c = units.angle_unit_of_angle c.in-Some.ensures c.in_ok-rest.ensures

pub returns : goal.returns
returns c = units.angle_unit_of_generic c.in_ok-inside.ensures c.in_ok-rest-2.ensures
