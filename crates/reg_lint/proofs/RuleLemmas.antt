-- Where each rule is listed.
use Rattle.std.proofs.Common.{refl, arith}
use Rattle.std.specs.List.{Contains}
use Rattle.crs_sense.specs.declared.rule.Rule.TheVariants as own
use Rattle.reg_sense.specs.declared.rule.WideRule.TheVariants as wide
use Rattle.reg_lint.specs.declared.rule.AnyRule.{AnyRule}
use Rattle.reg_lint.specs.declared.rule.AnyRule.TheVariants as any
use Rattle.reg_lint.specs.AnyRules.{any_listed}

pub each : (rule : AnyRule) → Contains any_listed rule
each (any.Own own.Accuracy) = (0, omega arith, refl)
each (any.Own own.Angle) = (1, omega arith, refl)
each (any.Own own.Away) = (2, omega arith, refl)
each (any.Own own.Axes) = (3, omega arith, refl)
each (any.Own own.AxisName) = (4, omega arith, refl)
each (any.Own own.Box) = (5, omega arith, refl)
each (any.Wide wide.Case) = (6, omega arith, refl)
each (any.Wide wide.Datum) = (7, omega arith, refl)
each (any.Own own.Packed) = (8, omega arith, refl)
each (any.Own own.Ellipsoid) = (9, omega arith, refl)
each (any.Own own.FalseUnit) = (10, omega arith, refl)
each (any.Own own.Figure) = (11, omega arith, refl)
each (any.Own own.Height) = (12, omega arith, refl)
each (any.Own own.Key) = (13, omega arith, refl)
each (any.Own own.Meridian) = (14, omega arith, refl)
each (any.Own own.Name) = (15, omega arith, refl)
each (any.Own own.Operation) = (16, omega arith, refl)
each (any.Own own.Parallels) = (17, omega arith, refl)
each (any.Wide wide.Parts) = (18, omega arith, refl)
each (any.Own own.Prime) = (19, omega arith, refl)
each (any.Own own.Quantity) = (20, omega arith, refl)
each (any.Own own.Radian) = (21, omega arith, refl)
each (any.Wide wide.RefName) = (22, omega arith, refl)
each (any.Wide wide.SameName) = (23, omega arith, refl)
each (any.Own own.Scale) = (24, omega arith, refl)
each (any.Wide wide.Twin) = (25, omega arith, refl)
each (any.Own own.Unit) = (26, omega arith, refl)
each (any.Own own.UnitName) = (27, omega arith, refl)
each (any.Own own.Zone) = (28, omega arith, refl)
