-- The parts of systems that several rules look at.
use Rattle.std.specs.Prelude.{ℕ, List, [], Option, Some, None}
use Rattle.crs_part.specs.declared.units.UnitDefinition.{UnitDefinition}
use Rattle.crs_part.specs.declared.units.Unit.{Unit}
use Rattle.crs_part.specs.declared.units.Unit.TheVariants as any
use Rattle.crs_part.specs.declared.units.LengthUnit.{LengthUnit}
use Rattle.crs_part.specs.declared.units.LengthUnit.TheVariants as length_unit
use Rattle.crs_part.specs.declared.units.AngleUnit.{AngleUnit}
use Rattle.crs_part.specs.declared.units.AngleUnit.TheVariants as angle_unit
use Rattle.crs_part.specs.declared.conversions.Parameter.{Parameter}
use Rattle.crs_part.specs.declared.datums.Ellipsoid.{Ellipsoid}
use Rattle.crs_part.specs.declared.datums.PrimeMeridian.{PrimeMeridian}
use Rattle.crs_part.specs.declared.usages.Usage.{Usage}
use Rattle.crs_part.specs.declared.crs.Projected.{Projected as OfProjected}
use Rattle.crs_part.specs.Slots.{ellipsoid_of}
use Rattle.crs_part.specs.declared.crs.Single.{Single}
use Rattle.crs_part.specs.declared.crs.Single.TheVariants.{Geodetic, Projected, Vertical}

-- the name and the factor of a unit
abbrev pub unit_of : Unit → UnitDefinition
unit_of (any.Length unit) = unit
unit_of (any.Angle unit) = unit
unit_of (any.Scale unit) = unit
unit_of (any.Generic unit) = unit

abbrev pub length_of : LengthUnit → UnitDefinition
length_of (length_unit.Length unit) = unit
length_of (length_unit.Generic unit) = unit

abbrev pub angle_of : AngleUnit → UnitDefinition
angle_of (angle_unit.Angle unit) = unit
angle_of (angle_unit.Generic unit) = unit

-- the parameters of a conversion, which projected systems alone have
abbrev pub parameters_of : Single → List Parameter
parameters_of (Geodetic crs) = []
parameters_of (Projected crs) = crs.conversion.parameters
parameters_of (Vertical crs) = []

-- the ellipsoid of a system, which vertical ones lack
abbrev pub ellipsoid_in : Single → Option Ellipsoid
ellipsoid_in (Geodetic crs) = Some (ellipsoid_of crs.datum)
ellipsoid_in (Projected crs) = Some (ellipsoid_of crs.base.datum)
ellipsoid_in (Vertical crs) = None

abbrev pub prime_in : Single → Option PrimeMeridian
prime_in (Geodetic crs) = crs.prime_meridian
prime_in (Projected crs) = crs.base.prime_meridian
prime_in (Vertical crs) = None

abbrev pub projected_in : Single → Option OfProjected
projected_in (Geodetic crs) = None
projected_in (Projected crs) = Some crs
projected_in (Vertical crs) = None

abbrev pub usages_of : Single → List Usage
usages_of (Geodetic crs) = crs.usages
usages_of (Projected crs) = crs.usages
usages_of (Vertical crs) = crs.usages

abbrev pub name_in : Single → List ℕ
name_in (Geodetic crs) = crs.name.bytes
name_in (Projected crs) = crs.name.bytes
name_in (Vertical crs) = crs.name.bytes

-- a unit, if it may be one of angles
abbrev pub angle_in : Option Unit → Option UnitDefinition
angle_in None = None
angle_in (Some (any.Length unit)) = None
angle_in (Some (any.Angle unit)) = Some unit
angle_in (Some (any.Scale unit)) = None
angle_in (Some (any.Generic unit)) = Some unit

abbrev pub base_unit : Option AngleUnit → Option UnitDefinition
base_unit None = None
base_unit (Some unit) = Some (angle_of unit)

-- the unit of an angle of a conversion: its own, or else that of the base system
abbrev pub own_or_base : Option Unit → Option AngleUnit → Option UnitDefinition
own_or_base None base = base_unit base
own_or_base (Some own) base = Some (unit_of own)

-- the unit of the angles of a system that have none of their own
abbrev pub angles_of : Single → Option UnitDefinition
angles_of (Geodetic crs) = angle_in crs.unit
angles_of (Projected crs) = base_unit crs.base.unit
angles_of (Vertical crs) = None
