use Rattle.wkt_canonical.proofs.Nodes as nodes
use Rattle.wkt_canonical.proofs.Runs.{none_yet}
use Rattle.wkt_canonical.proofs.units.definition.Goals as goal

pub returns-in-Some : goal.returns-in-Some
returns-in-Some c = nodes.unit_definition c.in_ok-rest.ensures c.in_ok-rest-2.ensures (none_yet _ _ _) c.in-Some.ensures

pub returns : goal.returns
returns c = nodes.unit_definition c.in_ok-rest.ensures c.in_ok-rest-2.ensures c.in_ok-rest-3.ensures c.in_ok-rest-4.ensures
