use Rattle.std.proofs.Common.{sym, ◌∙◌}
use Rattle.wkt_canonical.proofs.Axes as axes
use Rattle.wkt_canonical.proofs.systems.axis_unit.Goals as goal

pub returns-in_default : goal.returns-in_default
returns-in_default c = axes.no_axis_unit _ _ _

pub returns : goal.returns
returns c = axes.axis_unit _ _ _ c.in-Some.ensures (sym c.takes_unit.ensures ∙ c.if-not-takes_unit.false)
