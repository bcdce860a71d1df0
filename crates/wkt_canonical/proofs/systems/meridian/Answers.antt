use Rattle.std.proofs.Common.{sym, ◌∙◌}
use Rattle.wkt_canonical.proofs.Axes as axes
use Rattle.wkt_canonical.proofs.systems.meridian.Goals as goal

pub returns-in_default : goal.returns-in_default
returns-in_default c = axes.no_meridian _ _

pub returns : goal.returns
returns c = axes.allowed_meridian _ c.in-Some.ensures (sym c.is_north_or_south.ensures ∙ c.if-not-is_north_or_south.false)
