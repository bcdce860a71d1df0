use Rattle.wkt_canonical.proofs.Runs as runs
use Rattle.wkt_canonical.proofs.node.some.Goals as goal

pub returns : goal.returns
returns g c = runs.first_and_others _ _ c.in_ok-rest.ensures c.in_ok-rest-2.ensures
