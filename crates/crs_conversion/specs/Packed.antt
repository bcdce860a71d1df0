-- A parameter, a prime meridian or the meridian of an axis, not 0, in a unit whose name begins with `sexagesimal`.
use Rattle.std.specs.Prelude.{ℕ, Bool, false, not, ◌&&◌, List, [], ◌∷◌, Option, Some, None, codes, pos, if◌then◌else◌}
use Rattle.std.specs.Ordering.{int_eq}
use Rattle.std.specs.List.{list_any, find, concat}
use Rattle.std.specs.Option.{option_map, option_map_or, option_or}
use Rattle.crs_number.specs.declared.decimals.Decimal.{Decimal}
use Rattle.crs_part.specs.declared.units.UnitDefinition.{UnitDefinition}
use Rattle.crs_part.specs.declared.conversions.Parameter.{Parameter}
use Rattle.crs_part.specs.declared.units.Unit.{Unit}
use Rattle.crs_part.specs.declared.units.AngleUnit.{AngleUnit}
use Rattle.crs_part.specs.declared.datums.PrimeMeridian.{PrimeMeridian}
use Rattle.crs_part.specs.declared.systems.Meridian.{Meridian}
use Rattle.crs_part.specs.declared.systems.Axis.{Axis}
use Rattle.crs_part.specs.declared.crs.Single.{Single}
use Rattle.crs_part.specs.Slots.{axes_of}
use Rattle.crs_exact.specs.Angles.{is_packed_unit}
use Rattle.crs_exact.specs.Parts.{unit_of, angle_of, parameters_of, prime_in}
use Rattle.crs_exact.specs.Said.{parameter_said}

abbrev pub is_packed : Decimal → UnitDefinition → Bool
is_packed value unit = not (int_eq value.coefficient (pos 0)) && is_packed_unit unit.name.bytes

abbrev packed_in : Decimal → Option Unit → Bool
packed_in value None = false
packed_in value (Some unit) = is_packed value (unit_of unit)

abbrev pub is_parameter_packed : Parameter → Bool
is_parameter_packed p = packed_in p.value p.unit

abbrev pub is_angle_packed : Decimal → Option AngleUnit → Bool
is_angle_packed value None = false
is_angle_packed value (Some unit) = is_packed value (angle_of unit)

abbrev is_prime_packed : PrimeMeridian → Bool
is_prime_packed m = is_angle_packed m.longitude m.unit

abbrev pub has_prime_packed : Single → Bool
has_prime_packed crs = option_map_or is_prime_packed (prime_in crs) false

abbrev is_meridian_packed : Option Meridian → Bool
is_meridian_packed None = false
is_meridian_packed (Some m) = is_packed m.longitude (angle_of m.unit)

abbrev pub is_axis_packed : Axis → Bool
is_axis_packed axis = is_meridian_packed axis.meridian

abbrev pub elsewhere : Single → Option (List ℕ)
elsewhere crs =
    if has_prime_packed crs then Some (concat (codes "the prime meridian is in packed degrees, minutes and seconds, which no factor turns into an angle: give it in degrees" ∷ []))
    else if list_any is_axis_packed (axes_of crs) then Some (concat (codes "the meridian of an axis is in packed degrees, minutes and seconds, which no factor turns into an angle: give it in degrees" ∷ []))
    else None

abbrev packed_said : Parameter → List ℕ
packed_said p = parameter_said p (codes "packed degrees, minutes and seconds, which no factor turns into an angle: give it in degrees")

abbrev pub packed : Single → Option (List ℕ)
packed crs = option_or (option_map packed_said (find is_parameter_packed (parameters_of crs))) (elsewhere crs)
