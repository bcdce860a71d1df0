use Rattle.wkt_canonical.proofs.Runs as runs
use Rattle.wkt_canonical.proofs.node.each.Goals as goal

pub loop-init : goal.loop-init
loop-init g c = runs.none_yet _ _ _

pub loop-preserved : goal.loop-preserved
loop-preserved g c = runs.one_more _ _ c.loop.invariant (runs.came _ _ c.in-Some.ensures c.keyword.ensures c.in_ok-rest.ensures)
