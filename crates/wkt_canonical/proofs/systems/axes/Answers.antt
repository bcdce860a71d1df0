use Rattle.std.proofs.Common.{arith}
use Rattle.wkt_canonical.proofs.Axes as axes
use Rattle.wkt_canonical.proofs.systems.axes.Goals as goal

pub returns-then-dimension-eq1 : goal.returns-then-dimension-eq1
returns-then-dimension-eq1 c = axes.axes_of_one (omega arith) c.in_ok-has_order.ensures c.in_ok-rest.ensures

pub returns-then-dimension-eq2 : goal.returns-then-dimension-eq2
returns-then-dimension-eq2 c = axes.axes_of_two (omega arith) c.in_ok-has_order.ensures c.in_ok-rest-2.ensures c.in_ok-rest-3.ensures

pub returns : goal.returns
returns c = axes.axes_of_three (omega arith) c.in_ok-has_order.ensures c.in_ok-rest-2.ensures c.in_ok-rest-4.ensures c.in_ok-rest-5.ensures
