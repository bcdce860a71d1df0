-- A projected system whose central meridian, or a standard parallel, is further from its areas of use than its method reaches.
use Rattle.std.specs.Prelude.{ℕ, nat_lt, Bool, true, false, not, ◌&&◌, ◌||◌, List, [], ◌∷◌, Option, Some, None, codes, if◌then◌else◌}
use Rattle.std.specs.List.{find, list_all, concat}
use Rattle.std.specs.Option.{option_or, option_map, option_and_then}
use Rattle.crs_number.specs.declared.decimals.Decimal.{Decimal}
use Rattle.crs_number.specs.Canonical.{canonical}
use Rattle.crs_part.specs.declared.units.UnitDefinition.{UnitDefinition}
use Rattle.crs_part.specs.declared.datums.PrimeMeridian.{PrimeMeridian}
use Rattle.crs_part.specs.declared.usages.BoundingBox.{BoundingBox}
use Rattle.crs_part.specs.declared.usages.Usage.{Usage}
use Rattle.crs_part.specs.declared.conversions.Parameter.{Parameter}
use Rattle.crs_part.specs.declared.crs.Projected.{Projected}
use Rattle.crs_part.specs.declared.crs.Single.{Single}
use Rattle.crs_exact.specs.Names.{has_part, is_named}
use Rattle.crs_exact.specs.Said.{parameter_said}
use Rattle.crs_exact.specs.Parts.{base_unit, own_or_base, projected_in}
use Rattle.crs_exact.specs.Angles.{is_packed}
use Rattle.crs_meridians.specs.Turn.{turn, in_degrees, in_unit_or_degrees, is_far_east, is_far_north}

-- ---- what is compared

abbrev pub is_origin : List ℕ → Bool
is_origin n =
    is_named (codes "longitude of natural origin") n || is_named (codes "longitude of false origin") n
    || is_named (codes "central meridian") n || is_named (codes "longitude of center") n

-- the degrees that a method of this name reaches east and west, or 0 if any meridian suits it
abbrev pub reach_of : List ℕ → ℕ
reach_of m =
    if has_part (codes "zoned") m then 0
    else if has_part (codes "transverse mercator") m || has_part (codes "cassini") m then 5
    else if has_part (codes "lambert conic conformal (1sp)") m || has_part (codes "oblique stereographic") m then 10
    else if has_part (codes "lambert conic") m || has_part (codes "albers") m || has_part (codes "lambert azimuthal") m then 30
    else 0

-- the method has standard parallels on a cone
abbrev pub has_cone : List ℕ → Bool
has_cone m = (has_part (codes "lambert conic") m && not (has_part (codes "(1sp)") m)) || has_part (codes "albers") m

-- where an angle in this unit is on a turn; packed degrees, minutes and seconds are nowhere
abbrev pub place_of : Decimal → Option UnitDefinition → Option ℕ
place_of v unit = if is_packed unit then None else in_unit_or_degrees v unit

-- where the prime meridian is, in its own unit or else that of its system; Greenwich without one
abbrev pub prime_place : Option PrimeMeridian → Option UnitDefinition → Option ℕ
prime_place None common = Some turn
prime_place (Some m) common = place_of m.longitude (option_or (base_unit m.unit) common)

-- ---- areas of use

abbrev pub far_from_arc : ℕ → ℕ → ℕ → Option ℕ → Option ℕ → Bool
far_from_arc meridian prime degrees None east = false
far_from_arc meridian prime degrees (Some west) None = false
far_from_arc meridian prime degrees (Some west) (Some east) = is_far_east meridian prime west east degrees

abbrev pub far_from_belt : ℕ → ℕ → Option ℕ → Option ℕ → Bool
far_from_belt parallel degrees None north = false
far_from_belt parallel degrees (Some south) None = false
far_from_belt parallel degrees (Some south) (Some north) = is_far_north parallel south north degrees

-- a usage without a box says nothing
abbrev pub usage_far_east : ℕ → ℕ → ℕ → Option BoundingBox → Bool
usage_far_east meridian prime degrees None = true
usage_far_east meridian prime degrees (Some box) = far_from_arc meridian prime degrees (in_degrees box.west) (in_degrees box.east)

abbrev pub usage_far_north : ℕ → ℕ → Option BoundingBox → Bool
usage_far_north parallel degrees None = true
usage_far_north parallel degrees (Some box) = far_from_belt parallel degrees (in_degrees box.south) (in_degrees box.north)

-- the meridian is far from all areas of use
abbrev pub all_far_east : Option ℕ → Option ℕ → ℕ → List Usage → Bool
all_far_east None prime degrees usages = false
all_far_east (Some meridian) None degrees usages = false
all_far_east (Some meridian) (Some prime) degrees usages = list_all (λ usage. usage_far_east meridian prime degrees usage.bounding_box) usages

abbrev pub all_far_north : Option ℕ → ℕ → List Usage → Bool
all_far_north None degrees usages = false
all_far_north (Some parallel) degrees usages = list_all (λ usage. usage_far_north parallel degrees usage.bounding_box) usages

abbrev pub first_box : List Usage → Option BoundingBox
first_box [] = None
first_box (usage ∷ usages) = option_or usage.bounding_box (first_box usages)

-- ---- the rule

abbrev pub is_meridian_away : Projected → ℕ → Parameter → Bool
is_meridian_away crs degrees p =
    nat_lt 0 degrees && is_origin p.name.bytes
    && all_far_east (place_of p.value (own_or_base p.unit crs.base.unit)) (prime_place crs.base.prime_meridian (base_unit crs.base.unit)) degrees crs.usages

-- 35 degrees
abbrev pub is_parallel_away : Projected → Parameter → Bool
is_parallel_away crs p =
    has_cone crs.conversion.method.name.bytes && has_part (codes "parallel") p.name.bytes
    && all_far_north (place_of p.value (own_or_base p.unit crs.base.unit)) 35 crs.usages

abbrev pub is_parameter_away : Projected → Parameter → Bool
is_parameter_away crs p = is_meridian_away crs (reach_of crs.conversion.method.name.bytes) p || is_parallel_away crs p

-- ---- what is said

abbrev pub box_said : BoundingBox → List ℕ
box_said box =
    concat
    (codes "the area of use has south "
    ∷ canonical box.south.coefficient box.south.exponent
    ∷ codes ", west "
    ∷ canonical box.west.coefficient box.west.exponent
    ∷ codes ", north "
    ∷ canonical box.north.coefficient box.north.exponent
    ∷ codes ", east "
    ∷ canonical box.east.coefficient box.east.exponent
    ∷ [])

abbrev away_said : BoundingBox → Parameter → List ℕ
away_said box p = parameter_said p (box_said box)

-- the first such parameter beside the first area of use
abbrev away_beside : Projected → BoundingBox → Option (List ℕ)
away_beside crs box = option_map (away_said box) (find (is_parameter_away crs) crs.conversion.parameters)

abbrev pub away_in : Projected → Option (List ℕ)
away_in crs = option_and_then (away_beside crs) (first_box crs.usages)

abbrev pub away : Single → Option (List ℕ)
away crs = option_and_then away_in (projected_in crs)
