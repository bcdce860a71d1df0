use Rattle.wkt_canonical.proofs.Runs as runs
use Rattle.wkt_canonical.proofs.UnitKinds as units
use Rattle.wkt_canonical.proofs.units.maybe_unit.Goals as goal

pub returns-in-Some : goal.returns-in-Some
returns-in-Some c = runs.maybe_came _ _ (units.any_unit c.in-Some.ensures)

pub returns-in-None : goal.returns-in-None
returns-in-None c = runs.none_came _ _ _
