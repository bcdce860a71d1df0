-- A latitude beyond 90 degrees, or a longitude, an azimuth or another angle of a conversion beyond 360.
use Rattle.std.specs.Prelude.{ℕ, Bool, false, not, ◌&&◌, ◌||◌, List, Option, Some, None, codes, if◌then◌else◌}
use Rattle.std.specs.List.{find}
use Rattle.std.specs.Option.{option_map}
use Rattle.crs_number.specs.declared.decimals.Decimal.{Decimal}
use Rattle.crs_part.specs.declared.conversions.Parameter.{Parameter}
use Rattle.crs_part.specs.declared.units.UnitDefinition.{UnitDefinition}
use Rattle.crs_part.specs.declared.crs.Single.{Single}
use Rattle.crs_exact.specs.Angles.{is_packed_unit}
use Rattle.crs_exact.specs.Sizes.{is_product_beyond}
use Rattle.crs_exact.specs.Parts.{parameters_of, angle_in}
use Rattle.crs_exact.specs.Said.{parameter_said}
use Rattle.crs_conversion.specs.Kinds.{is_latitude_name, is_longitude_name, is_turn_name}

-- beyond 90 degrees of 0.0174532925199433 radians, and one part in 10^9 for rounded factors
abbrev pub is_beyond_quarter : Decimal → Decimal → Bool
is_beyond_quarter v f = is_product_beyond v f 15707963283656929932794897 25

-- beyond 360 degrees, likewise
abbrev pub is_beyond_turn : Decimal → Decimal → Bool
is_beyond_turn v f = is_product_beyond v f 62831853134627719731179588 25

abbrev pub is_angle_beyond : Decimal → Decimal → List ℕ → Bool
is_angle_beyond v f n = (is_latitude_name n && is_beyond_quarter v f) || ((is_longitude_name n || is_turn_name n) && is_beyond_turn v f)

-- a unit of its own that may be an angle counts, but for packed degrees, minutes and seconds, which have no factor
abbrev pub is_beyond_in : Option UnitDefinition → Decimal → List ℕ → Bool
is_beyond_in None v n = false
is_beyond_in (Some unit) v n = not (is_packed_unit unit.name.bytes) && is_angle_beyond v unit.factor n

abbrev pub is_angle_odd : Parameter → Bool
is_angle_odd p = is_beyond_in (angle_in p.unit) p.value p.name.bytes

abbrev pub angle_what : List ℕ → List ℕ
angle_what n = if is_latitude_name n then codes "a latitude ends at 90 degrees" else codes "an angle ends at 360 degrees"

abbrev angle_said : Parameter → List ℕ
angle_said p = parameter_said p (angle_what p.name.bytes)

abbrev pub angle : Single → Option (List ℕ)
angle crs = option_map angle_said (find is_angle_odd (parameters_of crs))
