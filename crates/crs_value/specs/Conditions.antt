-- The meaning of each condition on a coordinate reference system. Axes are counted from 0.
use Rattle.std.specs.Prelude.{ℕ, ◌+◌, ◌==◌, nat_lt, Bool, true, false, not, ◌&&◌, ◌||◌, List, length, Option, Some, None, is_some, is_none}
use Rattle.std.specs.Int.{is_positive, is_negative}
use Rattle.std.specs.List.{list_all, enumerate_from}
use Rattle.std.specs.Option.{option_or, option_map_or}
use Rattle.crs_part.specs.Slots.{ellipsoid_of}
use Rattle.crs_part.specs.declared.units.UnitDefinition.{UnitDefinition}
use Rattle.crs_part.specs.declared.units.Unit.{Unit}
use Rattle.crs_part.specs.declared.units.Unit.TheVariants.{Length, Angle, Scale, Generic}
use Rattle.crs_part.specs.declared.datums.Ellipsoid.{Ellipsoid}
use Rattle.crs_part.specs.declared.systems.SystemKind.{SystemKind}
use Rattle.crs_part.specs.declared.systems.SystemKind.TheVariants as kind
use Rattle.crs_part.specs.declared.systems.CoordSystem.{CoordSystem}
use Rattle.crs_part.specs.declared.systems.Direction.{Direction}
use Rattle.crs_part.specs.declared.systems.Direction.TheVariants.{North, South}
use Rattle.crs_part.specs.declared.systems.Order.{Order}
use Rattle.crs_part.specs.declared.systems.Axis.{Axis}
use Rattle.crs_part.specs.declared.crs.GeodeticKind.{GeodeticKind}
use Rattle.crs_part.specs.declared.crs.GeodeticKind.TheVariants as geodetic
use Rattle.crs_part.specs.declared.crs.Single.{Single}
use Rattle.crs_part.specs.declared.crs.Single.TheVariants.{Geodetic, Projected, Vertical}
use Rattle.crs_part.specs.declared.crs.Compound.{Compound}
use Rattle.crs_value.specs.declared.kinds.UnitKind.{UnitKind}
use Rattle.crs_value.specs.declared.kinds.UnitKind.TheVariants as measures
use Rattle.crs_value.specs.Units.{units_of, own_units}

-- C1: as many axes as the dimension
abbrev pub has_axis_a_dimension : CoordSystem → List Axis → Bool
has_axis_a_dimension system axes = length axes == system.dimension

abbrev pub is_two_or_three : ℕ → Bool
is_two_or_three n = n == 2 || n == 3

-- a geographic system is ellipsoidal of 2 or 3
abbrev pub may_be_geographic : SystemKind → ℕ → Bool
may_be_geographic kind.Ellipsoidal n = is_two_or_three n
may_be_geographic system n = false

-- a geodetic system is ellipsoidal of 2 or 3, Cartesian of 3, or spherical of 2 or 3
abbrev pub may_be_geodetic : SystemKind → ℕ → Bool
may_be_geodetic kind.Ellipsoidal n = is_two_or_three n
may_be_geodetic kind.Cartesian n = n == 3
may_be_geodetic kind.Spherical n = is_two_or_three n
may_be_geodetic system n = false

-- a projected system is Cartesian of 2 or 3
abbrev pub may_be_projected : SystemKind → ℕ → Bool
may_be_projected kind.Cartesian n = is_two_or_three n
may_be_projected system n = false

-- a vertical system is vertical of 1
abbrev pub may_be_vertical : SystemKind → ℕ → Bool
may_be_vertical kind.Vertical n = n == 1
may_be_vertical system n = false

abbrev pub may_be_of : GeodeticKind → SystemKind → ℕ → Bool
may_be_of geodetic.Geodetic system n = may_be_geodetic system n
may_be_of geodetic.Geographic system n = may_be_geographic system n

-- C2: the kind of reference system may have a coordinate system of this kind and dimension
abbrev pub may_have_system : Single → Bool
may_have_system (Geodetic crs) = may_be_of crs.kind crs.system.kind crs.system.dimension
may_have_system (Projected crs) = may_be_projected crs.system.kind crs.system.dimension
may_have_system (Vertical crs) = may_be_vertical crs.system.kind crs.system.dimension

-- C3: if an axis has no unit, there is a common unit
abbrev pub has_units : List Axis → Option Unit → Bool
has_units axes common = list_all (λ axis. is_some axis.unit || is_some common) axes

abbrev pub is_order : ℕ → Option Order → Bool
is_order k None = false
is_order k (Some order) = order.position == k + 1

-- C4: no axis has an order, or the k-th axis has the order k, from 1
abbrev pub has_orders : List Axis → Bool
has_orders axes =
    list_all (λ axis. is_none axis.order) axes
    || list_all (λ p. is_order p.0 p.1.order) (enumerate_from 0 axes)

-- the unit of an axis of such a system may be a length
abbrev pub takes_length : SystemKind → ℕ → Bool
takes_length kind.Ellipsoidal k = not (nat_lt k 2)
takes_length kind.Cartesian k = true
takes_length kind.Spherical k = true
takes_length kind.Vertical k = true

-- it may be an angle
abbrev pub takes_angle : SystemKind → ℕ → Bool
takes_angle kind.Ellipsoidal k = nat_lt k 2
takes_angle kind.Cartesian k = false
takes_angle kind.Spherical k = true
takes_angle kind.Vertical k = false

-- it may be of this kind
abbrev pub takes_unit : SystemKind → ℕ → UnitKind → Bool
takes_unit system k measures.Length = takes_length system k
takes_unit system k measures.Angle = takes_angle system k
takes_unit system k measures.Scale = false
takes_unit system k measures.Generic = true

-- the quantity that a unit measures, if its keyword names one
abbrev pub unit_kind : Unit → UnitKind
unit_kind (Length unit) = measures.Length
unit_kind (Angle unit) = measures.Angle
unit_kind (Scale unit) = measures.Scale
unit_kind (Generic unit) = measures.Generic

abbrev pub unit_fits : SystemKind → ℕ → Unit → Bool
unit_fits system k unit = takes_unit system k (unit_kind unit)

-- the unit that an axis is measured in, its own or else the common one, fits it
abbrev pub axis_fits : SystemKind → Option Unit → ℕ → Axis → Bool
axis_fits system common k axis = option_map_or (unit_fits system k) (option_or axis.unit common) true

-- C5: each axis's own unit fits it, and a common unit fits each axis that has none
abbrev pub units_fit : SystemKind → List Axis → Option Unit → Bool
units_fit system axes common = list_all (λ p. axis_fits system common p.0 p.1) (enumerate_from 0 axes)

abbrev pub is_ellipsoidal_plane : SystemKind → ℕ → Bool
is_ellipsoidal_plane kind.Ellipsoidal n = n == 2
is_ellipsoidal_plane system n = false

abbrev pub is_cartesian_plane : SystemKind → ℕ → Bool
is_cartesian_plane kind.Cartesian n = n == 2
is_cartesian_plane system n = false

-- C6: the first component is geodetic or geographic with an ellipsoidal system of 2, or projected with a Cartesian one of 2
abbrev pub may_be_first : Single → Bool
may_be_first (Geodetic crs) = is_ellipsoidal_plane crs.system.kind crs.system.dimension
may_be_first (Projected crs) = is_cartesian_plane crs.system.kind crs.system.dimension
may_be_first (Vertical crs) = false

-- C6: the second is vertical
abbrev pub may_be_second : Single → Bool
may_be_second (Geodetic crs) = false
may_be_second (Projected crs) = false
may_be_second (Vertical crs) = true

-- the semi-major axis is above 0, and the inverse flattening not negative
abbrev pub has_size : Ellipsoid → Bool
has_size ellipsoid = is_positive ellipsoid.radius.coefficient && not (is_negative ellipsoid.flattening.coefficient)

abbrev pub ellipsoid_has_size : Single → Bool
ellipsoid_has_size (Geodetic crs) = has_size (ellipsoid_of crs.datum)
ellipsoid_has_size (Projected crs) = has_size (ellipsoid_of crs.base.datum)
ellipsoid_has_size (Vertical crs) = true

abbrev pub has_positive_factor : UnitDefinition → Bool
has_positive_factor unit = is_positive unit.factor.coefficient

-- C7: the ellipsoid has a size, and every conversion factor is above 0
abbrev pub has_sizes : Single → Bool
has_sizes single = ellipsoid_has_size single && list_all has_positive_factor (units_of single)

-- C7, for a compound itself, without its components: every conversion factor is above 0
abbrev pub has_own_sizes : Compound → Bool
has_own_sizes compound = list_all has_positive_factor (own_units compound)

abbrev pub is_north_or_south : Direction → Bool
is_north_or_south North = true
is_north_or_south South = true
is_north_or_south direction = false

-- C8: only the directions north and south have a meridian
abbrev pub has_meridians : List Axis → Bool
has_meridians axes = list_all (λ axis. is_none axis.meridian || is_north_or_south axis.direction) axes
