-- A projected system whose central meridian is more than 0.01 degrees from that in its name.
use Rattle.std.specs.Prelude.{ℕ, ◌/◌, ◌%◌, ◌==◌, nat_lt, Bool, true, ◌&&◌, ◌||◌, List, [], ◌∷◌, Option, Some, None, codes, decimal, pos, if◌then◌else◌}
use Rattle.std.specs.Ordering.{int_eq}
use Rattle.std.specs.List.{find, concat}
use Rattle.std.specs.Option.{option_map, option_and_then}
use Rattle.crs_part.specs.declared.units.AngleUnit.{AngleUnit}
use Rattle.crs_part.specs.declared.datums.PrimeMeridian.{PrimeMeridian}
use Rattle.crs_part.specs.declared.conversions.Parameter.{Parameter}
use Rattle.crs_part.specs.declared.crs.Projected.{Projected}
use Rattle.crs_part.specs.declared.crs.Single.{Single}
use Rattle.crs_exact.specs.Angles.{is_elsewhere}
use Rattle.crs_exact.specs.Names.{is_named}
use Rattle.crs_exact.specs.Parts.{own_or_base, projected_in}
use Rattle.crs_exact.specs.Said.{parameter_said}
use Rattle.crs_meridians.specs.declared.said.SaidMeridian.{SaidMeridian}
use Rattle.crs_meridians.specs.Said.{meridian_said}

abbrev pub is_central : List ℕ → Bool
is_central n = is_named (codes "longitude of natural origin") n || is_named (codes "central meridian") n

abbrev pub is_at_greenwich : Option PrimeMeridian → Bool
is_at_greenwich None = true
is_at_greenwich (Some meridian) = int_eq meridian.longitude.coefficient (pos 0)

abbrev pub is_parameter_off : SaidMeridian → Option AngleUnit → Parameter → Bool
is_parameter_off said base p = is_central p.name.bytes && nat_lt said.micro 1000000000 && is_elsewhere p.value (own_or_base p.unit base) said.is_west said.micro 10000

abbrev pub side_said : Bool → List ℕ
side_said is_west = if is_west then codes " degrees west" else codes " degrees east"

-- so many whole degrees
abbrev pub whole_said : ℕ → Bool → List ℕ
whole_said n is_west = concat (codes "the name says " ∷ decimal n ∷ side_said is_west ∷ [])

-- so many tenths of a degree
abbrev pub tenths_said : ℕ → Bool → List ℕ
tenths_said n is_west = concat (codes "the name says " ∷ decimal (n / 10) ∷ codes "." ∷ decimal (n % 10) ∷ side_said is_west ∷ [])

-- a name has one decimal at most
abbrev pub name_says : SaidMeridian → List ℕ
name_says said = if said.micro % 1000000 == 0 then whole_said (said.micro / 1000000) said.is_west else tenths_said (said.micro / 100000) said.is_west

abbrev off_said : SaidMeridian → Parameter → List ℕ
off_said said p = parameter_said p (name_says said)

-- the central meridian beside that in the name
abbrev pub off_from : Option AngleUnit → List Parameter → SaidMeridian → Option (List ℕ)
off_from base ps said = option_map (off_said said) (find (is_parameter_off said base) ps)

-- systems on another prime meridian than Greenwich are passed over
abbrev pub meridian_in : Projected → Option (List ℕ)
meridian_in crs =
    if is_at_greenwich crs.base.prime_meridian then option_and_then (off_from crs.base.unit crs.conversion.parameters) (meridian_said crs.name.bytes)
    else None

abbrev pub meridian : Single → Option (List ℕ)
meridian crs = option_and_then meridian_in (projected_in crs)
