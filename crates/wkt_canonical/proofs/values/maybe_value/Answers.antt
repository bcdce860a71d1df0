use Rattle.wkt_canonical.proofs.Runs as runs
use Rattle.wkt_canonical.proofs.values.maybe_value.Goals as goal

pub returns-in_default : goal.returns-in_default
returns-in_default c = runs.none_came _ _ _

pub returns : goal.returns
returns c = runs.maybe_came _ _ (runs.came_within _ _ _ c.in-Some.ensures c.in_ok-rest.ensures)
