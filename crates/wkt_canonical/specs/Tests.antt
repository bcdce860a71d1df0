-- Tests of the parts as they are read, which together are the conditions on the whole.
use Rattle.std.specs.Prelude.{◌≡◌, ℕ, ◌<◌, Bool, true, false, ◌||◌, ◌&&◌, Option, None, is_some, is_none, List, length}
use Rattle.std.specs.List.{list_all, flat_map}
use Rattle.std.specs.Option.{option_map_or}
use Rattle.crs_part.specs.Slots.{ellipsoid_of}
use Rattle.crs_part.specs.declared.units.UnitDefinition.{UnitDefinition}
use Rattle.crs_part.specs.declared.units.Unit.{Unit}
use Rattle.crs_part.specs.declared.units.LengthUnit.{LengthUnit}
use Rattle.crs_part.specs.declared.units.AngleUnit.{AngleUnit}
use Rattle.crs_part.specs.declared.usages.VerticalExtent.{VerticalExtent}
use Rattle.crs_part.specs.declared.usages.Usage.{Usage}
use Rattle.crs_part.specs.declared.datums.Ellipsoid.{Ellipsoid}
use Rattle.crs_part.specs.declared.datums.Datum.{Datum}
use Rattle.crs_part.specs.declared.datums.GeodeticEnsemble.{GeodeticEnsemble}
use Rattle.crs_part.specs.declared.datums.PrimeMeridian.{PrimeMeridian}
use Rattle.crs_part.specs.declared.datums.GeodeticFrame.{GeodeticFrame}
use Rattle.crs_part.specs.declared.systems.SystemKind.{SystemKind}
use Rattle.crs_part.specs.declared.systems.Meridian.{Meridian}
use Rattle.crs_part.specs.declared.systems.Axis.{Axis}
use Rattle.crs_part.specs.declared.conversions.Parameter.{Parameter}
use Rattle.crs_part.specs.declared.conversions.Conversion.{Conversion}
use Rattle.crs_part.specs.declared.crs.BaseCrs.{BaseCrs}
use Rattle.crs_part.specs.declared.crs.Single.{Single}
use Rattle.crs_value.specs.declared.broken.Condition.{Condition}
use Rattle.crs_value.specs.declared.kinds.UnitKind.{UnitKind}
use Rattle.crs_value.specs.Checking.{holds}
use Rattle.crs_value.specs.Units.{any_units, length_units, angle_units, extent_units, usage_units, ellipsoid_units, prime_meridian_units, meridian_units, axis_units, parameter_units, conversion_units, base_units}
use Rattle.crs_value.specs.Conditions.{has_positive_factor, has_size, has_units, has_orders, units_fit, has_meridians, takes_unit, unit_fits, is_order, is_north_or_south}

-- every conversion factor is above 0
abbrev pub all_positive : List UnitDefinition → Bool
all_positive units = list_all has_positive_factor units

abbrev pub unit_passes : Unit → Bool
unit_passes unit = all_positive (any_units unit)

abbrev pub length_unit_passes : LengthUnit → Bool
length_unit_passes unit = all_positive (length_units unit)

abbrev pub angle_unit_passes : AngleUnit → Bool
angle_unit_passes unit = all_positive (angle_units unit)

abbrev pub extent_passes : VerticalExtent → Bool
extent_passes extent = all_positive (extent_units extent)

abbrev pub usage_passes : Usage → Bool
usage_passes usage = all_positive (usage_units usage)

abbrev pub ellipsoid_passes : Ellipsoid → Bool
ellipsoid_passes ellipsoid = has_size ellipsoid && all_positive (ellipsoid_units ellipsoid)

abbrev pub datum_passes : Datum → Bool
datum_passes datum = ellipsoid_passes datum.ellipsoid

abbrev pub ensemble_passes : GeodeticEnsemble → Bool
ensemble_passes ensemble = ellipsoid_passes ensemble.ellipsoid

abbrev pub frame_passes : GeodeticFrame → Bool
frame_passes frame = ellipsoid_passes (ellipsoid_of frame)

abbrev pub prime_meridian_passes : PrimeMeridian → Bool
prime_meridian_passes meridian = all_positive (prime_meridian_units meridian)

abbrev pub meridian_passes : Meridian → Bool
meridian_passes meridian = all_positive (meridian_units meridian)

abbrev pub parameter_passes : Parameter → Bool
parameter_passes parameter = all_positive (parameter_units parameter)

abbrev pub conversion_passes : Conversion → Bool
conversion_passes conversion = all_positive (conversion_units conversion)

abbrev pub base_passes : BaseCrs → Bool
base_passes base = has_size (ellipsoid_of base.datum) && all_positive (base_units base)

-- each axis of a system of at most three may have a unit of this kind
abbrev pub FitsEach : SystemKind → ℕ → UnitKind → Type 0
FitsEach system dimension which = (k : ℕ) → k < 3 → k < dimension → takes_unit system k which ≡ true

-- an axis at this place, with its number or without one, with a unit of its own that fits it or without one
pub record IsAxis (system : SystemKind) (k : ℕ) (has_order has_unit : Bool) (axis : Axis) : Type 0 where
  pub with_unit : has_unit ≡ true → (is_some axis.unit ≡ true) × (option_map_or (unit_fits system k) axis.unit true ≡ true)
  pub without_unit : has_unit ≡ false → axis.unit ≡ None
  pub ordered : has_order ≡ true → is_order k axis.order ≡ true
  pub unordered : has_order ≡ false → is_none axis.order ≡ true
  pub meridian : (is_none axis.meridian || is_north_or_south axis.direction) ≡ true
  pub units : all_positive (axis_units axis) ≡ true

-- the conditions on the axes of a system of this kind and dimension, and on their common unit
pub record AxesHold (system : SystemKind) (dimension : ℕ) (axes : List Axis) (common : Option Unit) : Type 0 where
  pub count : length axes ≡ dimension
  pub have_units : has_units axes common ≡ true
  pub have_orders : has_orders axes ≡ true
  pub units_fit : units_fit system axes common ≡ true
  pub have_meridians : has_meridians axes ≡ true
  pub units : all_positive (flat_map axis_units axes) ≡ true

-- all conditions hold of a reference system of one part
abbrev pub Holds : Single → Type 0
Holds single = (condition : Condition) → holds single condition ≡ true
