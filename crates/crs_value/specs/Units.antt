-- All units in a coordinate reference system. Identifiers and geoid models have none.
use Rattle.std.specs.Prelude.{List, [], ◌∷◌, ◌++◌}
use Rattle.std.specs.Option.{option_map_or}
use Rattle.std.specs.List.{flat_map}
use Rattle.crs_part.specs.Slots.{items_of, ellipsoid_of}
use Rattle.crs_part.specs.declared.units.UnitDefinition.{UnitDefinition}
use Rattle.crs_part.specs.declared.units.Unit.{Unit}
use Rattle.crs_part.specs.declared.units.Unit.TheVariants as any
use Rattle.crs_part.specs.declared.units.LengthUnit.{LengthUnit}
use Rattle.crs_part.specs.declared.units.LengthUnit.TheVariants as length_unit
use Rattle.crs_part.specs.declared.units.AngleUnit.{AngleUnit}
use Rattle.crs_part.specs.declared.units.AngleUnit.TheVariants as angle
use Rattle.crs_part.specs.declared.usages.VerticalExtent.{VerticalExtent}
use Rattle.crs_part.specs.declared.usages.Usage.{Usage}
use Rattle.crs_part.specs.declared.datums.Ellipsoid.{Ellipsoid}
use Rattle.crs_part.specs.declared.datums.PrimeMeridian.{PrimeMeridian}
use Rattle.crs_part.specs.declared.datums.GeodeticFrame.{GeodeticFrame}
use Rattle.crs_part.specs.declared.systems.Meridian.{Meridian}
use Rattle.crs_part.specs.declared.systems.Axis.{Axis}
use Rattle.crs_part.specs.declared.conversions.Parameter.{Parameter}
use Rattle.crs_part.specs.declared.conversions.Conversion.{Conversion}
use Rattle.crs_part.specs.declared.crs.BaseCrs.{BaseCrs}
use Rattle.crs_part.specs.declared.crs.Single.{Single}
use Rattle.crs_part.specs.declared.crs.Single.TheVariants.{Geodetic, Projected, Vertical}
use Rattle.crs_part.specs.declared.crs.Compound.{Compound}

abbrev pub any_units : Unit → List UnitDefinition
any_units (any.Length unit) = unit ∷ []
any_units (any.Angle unit) = unit ∷ []
any_units (any.Scale unit) = unit ∷ []
any_units (any.Generic unit) = unit ∷ []

abbrev pub length_units : LengthUnit → List UnitDefinition
length_units (length_unit.Length unit) = unit ∷ []
length_units (length_unit.Generic unit) = unit ∷ []

abbrev pub angle_units : AngleUnit → List UnitDefinition
angle_units (angle.Angle unit) = unit ∷ []
angle_units (angle.Generic unit) = unit ∷ []

abbrev pub extent_units : VerticalExtent → List UnitDefinition
extent_units extent = option_map_or length_units extent.unit []

abbrev pub usage_units : Usage → List UnitDefinition
usage_units usage = option_map_or extent_units usage.vertical_extent []

abbrev pub ellipsoid_units : Ellipsoid → List UnitDefinition
ellipsoid_units ellipsoid = option_map_or length_units ellipsoid.unit []

abbrev pub frame_units : GeodeticFrame → List UnitDefinition
frame_units frame = ellipsoid_units (ellipsoid_of frame)

abbrev pub prime_meridian_units : PrimeMeridian → List UnitDefinition
prime_meridian_units meridian = option_map_or angle_units meridian.unit []

abbrev pub meridian_units : Meridian → List UnitDefinition
meridian_units meridian = angle_units meridian.unit

abbrev pub axis_units : Axis → List UnitDefinition
axis_units axis = option_map_or meridian_units axis.meridian [] ++ option_map_or any_units axis.unit []

abbrev pub parameter_units : Parameter → List UnitDefinition
parameter_units parameter = option_map_or any_units parameter.unit []

abbrev pub conversion_units : Conversion → List UnitDefinition
conversion_units conversion = flat_map parameter_units conversion.parameters

abbrev pub base_units : BaseCrs → List UnitDefinition
base_units base =
    frame_units base.datum
    ++ option_map_or prime_meridian_units base.prime_meridian []
    ++ option_map_or angle_units base.unit []

abbrev pub units_of : Single → List UnitDefinition
units_of (Geodetic crs) =
    frame_units crs.datum
    ++ option_map_or prime_meridian_units crs.prime_meridian []
    ++ flat_map axis_units (items_of crs.axes)
    ++ option_map_or any_units crs.unit []
    ++ flat_map usage_units crs.usages
units_of (Projected crs) =
    base_units crs.base
    ++ conversion_units crs.conversion
    ++ flat_map axis_units (items_of crs.axes)
    ++ option_map_or any_units crs.unit []
    ++ flat_map usage_units crs.usages
units_of (Vertical crs) =
    flat_map axis_units (items_of crs.axes)
    ++ option_map_or any_units crs.unit []
    ++ flat_map usage_units crs.usages

-- the units of a compound itself, without those of its components
abbrev pub own_units : Compound → List UnitDefinition
own_units compound = flat_map usage_units compound.usages
