-- An angle in degrees that is no whole number of arc-seconds, and that would be a whole number of arc-minutes, were it radians.
use Rattle.std.specs.Prelude.{ℕ, ◌/◌, ◌%◌, nat_le, Bool, true, false, not, ◌&&◌, List, [], ◌∷◌, Option, Some, None, codes, decimal, if◌then◌else◌}
use Rattle.std.specs.Int.{is_negative}
use Rattle.std.specs.List.{find, concat}
use Rattle.std.specs.Option.{option_map, option_or, option_and_then}
use Rattle.crs_number.specs.declared.decimals.Decimal.{Decimal}
use Rattle.crs_number.specs.Value.{places}
use Rattle.crs_number.specs.Canonical.{canonical}
use Rattle.crs_part.specs.declared.units.UnitDefinition.{UnitDefinition}
use Rattle.crs_part.specs.declared.units.AngleUnit.{AngleUnit}
use Rattle.crs_part.specs.declared.datums.PrimeMeridian.{PrimeMeridian}
use Rattle.crs_part.specs.declared.conversions.Parameter.{Parameter}
use Rattle.crs_part.specs.declared.crs.Projected.{Projected}
use Rattle.crs_part.specs.declared.crs.Single.{Single}
use Rattle.crs_exact.specs.Parts.{base_unit, own_or_base, angles_of, prime_in, projected_in}
use Rattle.crs_exact.specs.Angles.{is_packed_unit}
use Rattle.crs_exact.specs.Sizes.{is_below, is_beyond}
use Rattle.crs_conversion.specs.Kinds.{is_angle_name}
use Rattle.crs_conversion.specs.Round.{fine, is_whole_seconds, is_whole_minutes, minutes}

-- a degree, to one part in 10^6 of 0.0174532925199433 radians; packed degrees, minutes and seconds are none
abbrev pub is_degree : UnitDefinition → Bool
is_degree unit = not (is_packed_unit unit.name.bytes) && not (is_below unit.factor 174532750666507800567 22) && not (is_beyond unit.factor 174533099732358199433 22)

-- an angle without a unit is in degrees
abbrev pub is_in_degrees : Option UnitDefinition → Bool
is_in_degrees None = true
is_in_degrees (Some unit) = is_degree unit

abbrev pub is_round : Option ℕ → Bool
is_round None = false
is_round (Some n) = not (is_whole_seconds n) && is_whole_minutes n

-- radians given as degrees: at least 6 decimals, at most 6.3, and round in radians alone
abbrev pub is_radian : Decimal → Bool
is_radian v = nat_le (places v.exponent) 34 && not (is_beyond v 63 1) && is_round (fine v)

abbrev pub minus_said : Decimal → List ℕ
minus_said v = if is_negative v.coefficient then codes "-" else []

-- an angle in degrees, and so many radians as whole degrees and arc-minutes
abbrev pub radians_said : List ℕ → Decimal → ℕ → List ℕ
radians_said name v n =
    concat
    (codes "\""
    ∷ name
    ∷ codes "\" is "
    ∷ canonical v.coefficient v.exponent
    ∷ codes " degrees, and as radians it would be "
    ∷ minus_said v
    ∷ decimal (minutes n / 60)
    ∷ codes " degrees "
    ∷ decimal (minutes n % 60)
    ∷ codes " minutes: radians given as degrees?"
    ∷ [])

abbrev pub radians : List ℕ → Decimal → Option (List ℕ)
radians name v = if is_radian v then option_map (radians_said name v) (fine v) else None

-- the unit of a prime meridian: its own, or else that of its system
abbrev prime_at : Option UnitDefinition → PrimeMeridian → Option (List ℕ)
prime_at common m = if is_in_degrees (option_or (base_unit m.unit) common) then radians m.name.bytes m.longitude else None

abbrev pub prime_radian : Single → Option (List ℕ)
prime_radian crs = option_and_then (prime_at (angles_of crs)) (prime_in crs)

abbrev pub is_parameter_odd : Option AngleUnit → Parameter → Bool
is_parameter_odd base p = is_angle_name p.name.bytes && is_in_degrees (own_or_base p.unit base) && is_radian p.value

abbrev parameter_radians : Parameter → Option (List ℕ)
parameter_radians p = radians p.name.bytes p.value

-- the first such angle of a conversion
abbrev pub first_in : Projected → Option (List ℕ)
first_in crs = option_and_then parameter_radians (find (is_parameter_odd crs.base.unit) crs.conversion.parameters)

abbrev pub radian : Single → Option (List ℕ)
radian crs = option_or (prime_radian crs) (option_and_then first_in (projected_in crs))
