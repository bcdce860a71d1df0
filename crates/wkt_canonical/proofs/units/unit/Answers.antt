use Rattle.wkt_canonical.proofs.UnitKinds as units
use Rattle.wkt_canonical.proofs.units.unit.Goals as goal

pub returns-in-Some : goal.returns-in-Some
returns-in-Some c = units.length_read c.in-Some.ensures c.in_ok-rest.ensures

pub returns-in-Some-opens : goal.returns-in-Some-opens
returns-in-Some-opens c = units.angle_read c.in-Some-opens.ensures c.in_ok-rest-2.ensures

pub returns-in-Some-opens-2 : goal.returns-in-Some-opens-2
returns-in-Some-opens-2 c = units.scale_read c.in-Some-opens-2.ensures c.in_ok-rest-3.ensures

pub returns : goal.returns
returns c = units.generic_read c.in_ok-inside.ensures c.in_ok-rest-4.ensures
