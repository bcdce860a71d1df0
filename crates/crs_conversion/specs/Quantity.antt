-- A parameter whose unit measures something else than its name tells.
use Rattle.std.specs.Prelude.{ℕ, Bool, false, ◌||◌, List, Option, Some, None, codes, if◌then◌else◌}
use Rattle.std.specs.List.{find}
use Rattle.std.specs.Option.{option_map}
use Rattle.crs_part.specs.declared.conversions.Parameter.{Parameter}
use Rattle.crs_part.specs.declared.units.Unit.{Unit}
use Rattle.crs_part.specs.declared.units.Unit.TheVariants.{Length, Angle, Scale, Generic}
use Rattle.crs_part.specs.declared.crs.Single.{Single}
use Rattle.crs_exact.specs.Parts.{parameters_of}
use Rattle.crs_exact.specs.Said.{parameter_said}
use Rattle.crs_conversion.specs.Kinds.{is_angle_name, is_length_name, is_scale_name}

-- the unit measures something else than the name tells
abbrev pub is_unit_against : Option Unit → List ℕ → Bool
is_unit_against None n = false
is_unit_against (Some (Length unit)) n = is_angle_name n || is_scale_name n
is_unit_against (Some (Angle unit)) n = is_length_name n || is_scale_name n
is_unit_against (Some (Scale unit)) n = is_angle_name n || is_length_name n
is_unit_against (Some (Generic unit)) n = false

abbrev pub is_against : Parameter → Bool
is_against p = is_unit_against p.unit p.name.bytes

abbrev pub quantity_what : List ℕ → List ℕ
quantity_what n =
    if is_angle_name n then codes "by its name it is an angle"
    else if is_scale_name n then codes "by its name it is a ratio"
    else codes "by its name it is a length"

abbrev quantity_said : Parameter → List ℕ
quantity_said p = parameter_said p (quantity_what p.name.bytes)

abbrev pub quantity : Single → Option (List ℕ)
quantity crs = option_map quantity_said (find is_against (parameters_of crs))
