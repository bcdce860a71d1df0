use Rattle.wkt_canonical.proofs.Axes as axes
use Rattle.wkt_canonical.proofs.systems.system.Goals as goal

pub returns : goal.returns
returns c = axes.system _ _ c.in_ok-inside.ensures c.in_ok-kind.ensures c.in_ok-rest.ensures c.in_ok-dimension.ensures c.in_ok-rest-2.ensures c.in_ok-rest-3.ensures
