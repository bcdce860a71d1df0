use Rattle.wkt_canonical.proofs.Axes as axes
use Rattle.wkt_canonical.proofs.systems.axis.Goals as goal

pub returns : goal.returns
returns c = axes.axis _ _ _ _ _ c.in_ok-inside.ensures c.in_ok-rest.ensures c.in_ok-rest-2.ensures c.in_ok-direction.ensures c.in_ok-rest-3.ensures c.in_ok-has_order.ensures c.in_ok-has_unit.ensures c.in_ok-rest-4.ensures c.in_ok-rest-5.ensures
