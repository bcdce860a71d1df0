use Rattle.wkt_canonical.proofs.Axes as axes
use Rattle.wkt_canonical.proofs.systems.common_unit.Goals as goal

pub returns-in_default : goal.returns-in_default
returns-in_default c = axes.no_common_unit _ _ _ _ c.if-not-has_unit.false

pub returns-then-has_unit : goal.returns-then-has_unit
returns-then-has_unit c = axes.any_common_unit _ _ _ _ c.in-Some.ensures c.if-has_unit.true

pub returns : goal.returns
returns c = axes.fitting_common_unit _ _ _ _ c.in-Some.ensures (c.fits_each.ensures c.if-not-fits_each.false)
