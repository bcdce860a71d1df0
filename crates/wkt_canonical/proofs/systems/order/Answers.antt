use Rattle.std.proofs.Common.{arith}
use Rattle.wkt_canonical.proofs.Axes as axes
use Rattle.wkt_canonical.proofs.systems.order.Goals as goal

pub returns-in_default : goal.returns-in_default
returns-in_default c = axes.no_order _ _

pub returns : goal.returns
returns c = axes.order _ _ c.in-Some.ensures c.in_ok-position.ensures c.in_ok-rest.ensures (omega arith)
