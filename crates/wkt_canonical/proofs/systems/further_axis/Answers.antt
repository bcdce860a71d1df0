use Rattle.wkt_canonical.proofs.Axes as axes
use Rattle.wkt_canonical.proofs.systems.further_axis.Goals as goal

pub returns : goal.returns
returns c = axes.as_before _ _ _ _ c.if-has_order_too-has_order.false c.if-has_unit_too-has_unit.false c.in_ok-has_order_too.ensures
