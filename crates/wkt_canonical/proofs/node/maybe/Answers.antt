use Rattle.wkt_canonical.proofs.Runs as runs
use Rattle.wkt_canonical.proofs.node.maybe.Goals as goal

pub returns-in_default : goal.returns-in_default
returns-in_default g c = runs.none_came _ _ _

pub returns : goal.returns
returns g c = runs.maybe_came _ _ (runs.came _ _ c.in-Some.ensures c.keyword.ensures c.in_ok-rest.ensures)
