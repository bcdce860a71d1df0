-- Two standard parallels that are equal, or opposite, in one unit.
use Rattle.std.specs.Prelude.{ℕ, Bool, true, false, ◌&&◌, ◌||◌, List, [], ◌∷◌, Option, Some, None, codes, if◌then◌else◌}
use Rattle.std.specs.List.{find, concat}
use Rattle.crs_number.specs.Canonical.{canonical}
use Rattle.crs_part.specs.declared.units.Unit.{Unit}
use Rattle.crs_part.specs.declared.conversions.Parameter.{Parameter}
use Rattle.crs_part.specs.declared.crs.Single.{Single}
use Rattle.crs_exact.specs.Names.{is_named}
use Rattle.crs_exact.specs.Sizes.{is_same_size}
use Rattle.crs_exact.specs.Parts.{parameters_of, unit_of}

abbrev pub is_first_parallel : Parameter → Bool
is_first_parallel p = is_named (codes "latitude of 1st standard parallel") p.name.bytes || is_named (codes "standard parallel 1") p.name.bytes

abbrev pub is_second_parallel : Parameter → Bool
is_second_parallel p = is_named (codes "latitude of 2nd standard parallel") p.name.bytes || is_named (codes "standard parallel 2") p.name.bytes

abbrev pub is_same_unit : Option Unit → Option Unit → Bool
is_same_unit None None = true
is_same_unit None (Some b) = false
is_same_unit (Some a) None = false
is_same_unit (Some a) (Some b) = is_same_size (unit_of a).factor (unit_of b).factor

abbrev pub are_same : Parameter → Parameter → Bool
are_same p q = is_same_size p.value q.value && is_same_unit p.unit q.unit

abbrev parallels_said : Parameter → Parameter → List ℕ
parallels_said p q =
    concat
    (codes "the standard parallels are "
    ∷ canonical p.value.coefficient p.value.exponent
    ∷ codes " and "
    ∷ canonical q.value.coefficient q.value.exponent
    ∷ codes ": equal ones make a tangent cone, and opposite ones make none"
    ∷ [])

abbrev both : Option Parameter → Option Parameter → Option (List ℕ)
both None second = None
both (Some p) None = None
both (Some p) (Some q) = if are_same p q then Some (parallels_said p q) else None

abbrev pub parallels : Single → Option (List ℕ)
parallels crs = both (find is_first_parallel (parameters_of crs)) (find is_second_parallel (parameters_of crs))
