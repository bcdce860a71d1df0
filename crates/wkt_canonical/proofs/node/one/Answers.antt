use Rattle.wkt_canonical.proofs.Runs as runs
use Rattle.wkt_canonical.proofs.node.one.Goals as goal

pub returns : goal.returns
returns g c = runs.came _ _ c.in_ok-inside.ensures c.keyword.ensures c.in_ok-rest.ensures
