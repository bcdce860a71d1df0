-- A false easting or northing, not 0, in a unit of another name and another factor than the first axis.
use Rattle.std.specs.Prelude.{ℕ, Bool, false, not, ◌&&◌, ◌||◌, pos, List, [], ◌∷◌, Option, Some, None, codes}
use Rattle.std.specs.Ordering.{int_eq}
use Rattle.std.specs.List.{find, concat}
use Rattle.std.specs.Option.{option_or, option_map, option_and_then}
use Rattle.crs_part.specs.declared.units.UnitDefinition.{UnitDefinition}
use Rattle.crs_part.specs.declared.units.Unit.{Unit}
use Rattle.crs_part.specs.declared.conversions.Parameter.{Parameter}
use Rattle.crs_part.specs.declared.crs.Projected.{Projected}
use Rattle.crs_part.specs.declared.crs.Single.{Single}
use Rattle.crs_exact.specs.Names.{is_named}
use Rattle.crs_exact.specs.Sizes.{is_same_size}
use Rattle.crs_exact.specs.Parts.{unit_of, projected_in}
use Rattle.crs_exact.specs.Said.{unit_said, parameter_said}

abbrev pub is_false_origin : List ℕ → Bool
is_false_origin name =
    is_named (codes "false easting") name
    || is_named (codes "false northing") name
    || is_named (codes "easting at false origin") name
    || is_named (codes "northing at false origin") name
    || is_named (codes "easting at projection centre") name
    || is_named (codes "northing at projection centre") name

-- another name and another factor
abbrev pub is_other_unit : UnitDefinition → UnitDefinition → Bool
is_other_unit a b = not (is_same_size a.factor b.factor) && not (is_named a.name.bytes b.name.bytes)

abbrev pub are_other_units : Option Unit → Option Unit → Bool
are_other_units None b = false
are_other_units (Some a) None = false
are_other_units (Some a) (Some b) = is_other_unit (unit_of a) (unit_of b)

abbrev pub is_false_unit : Option Unit → Parameter → Bool
is_false_unit axis p = is_false_origin p.name.bytes && not (int_eq p.value.coefficient (pos 0)) && are_other_units axis p.unit

abbrev pub false_said : Option Unit → Parameter → List ℕ
false_said axis p = parameter_said p (concat (codes "the first axis is in " ∷ unit_said axis ∷ []))

abbrev false_among : Option Unit → List Parameter → Option (List ℕ)
false_among axis ps = option_map (false_said axis) (find (is_false_unit axis) ps)

abbrev pub false_in : Projected → Option (List ℕ)
false_in crs = false_among (option_or crs.axes.first.unit crs.unit) crs.conversion.parameters

abbrev pub false_unit : Single → Option (List ℕ)
false_unit crs = option_and_then false_in (projected_in crs)
