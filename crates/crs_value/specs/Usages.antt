-- Areas of use, and bounding boxes that have a point.
use Rattle.std.specs.Prelude.{◌⊎◌, ℕ, List, pos, neg_ℤ, ◌≤ℤ◌, ◌<ℤ◌, Option, Some, None}
use Rattle.std.specs.List.{Any}
use Rattle.crs_number.specs.declared.decimals.Decimal.{Decimal}
use Rattle.crs_number.specs.Value.{units}
use Rattle.crs_part.specs.declared.crs.CrsParts.{CrsParts}
use Rattle.crs_part.specs.declared.crs.CrsParts.TheVariants as whole
use Rattle.crs_part.specs.declared.crs.Single.{Single}
use Rattle.crs_part.specs.declared.crs.Single.TheVariants.{Geodetic, Projected, Vertical}
use Rattle.crs_part.specs.declared.usages.BoundingBox.{BoundingBox}
use Rattle.crs_part.specs.declared.usages.Usage.{Usage}
use Rattle.crs_value.specs.declared.search.point.Point.{Point}
use Rattle.crs_value.specs.Parts.{HasPart}

abbrev usages_of_single : Single → List Usage
usages_of_single (Geodetic crs) = crs.usages
usages_of_single (Projected crs) = crs.usages
usages_of_single (Vertical crs) = crs.usages

-- the usages of the whole, and not those of a component
abbrev pub usages_of : CrsParts → List Usage
usages_of (whole.Single single) = usages_of_single single
usages_of (whole.Compound compound) = compound.usages

-- there is a value, and it is so
abbrev pub HasOne : {T : Type 0} → (T → Type 0) → Option T → Type 0
HasOne P None = ⊥
HasOne P (Some x) = P x

-- ---- areas

-- the usage has an area with the part in its text
abbrev pub HasAreaPart : List ℕ → Usage → Type 0
HasAreaPart part u = HasOne (λ area. HasPart part area.bytes) u.area

-- some usage does
abbrev pub IsInArea : List ℕ → CrsParts → Type 0
IsInArea part crs = Any (HasAreaPart part) (usages_of crs)

-- ---- points

abbrev pub IsAtMost : Decimal → Decimal → Type 0
IsAtMost a b = units a.coefficient a.exponent ≤ℤ units b.coefficient b.exponent

abbrev pub IsBelow : Decimal → Decimal → Type 0
IsBelow a b = units a.coefficient a.exponent <ℤ units b.coefficient b.exponent

-- both ends included
abbrev pub IsBetween : Decimal → Decimal → Decimal → Type 0
IsBetween low x high = IsAtMost low x × IsAtMost x high

-- at most this many degrees, and at least as many below 0
abbrev pub IsWithin : ℕ → Decimal → Type 0
IsWithin degrees x = (units (neg_ℤ (pos degrees)) (pos 0) ≤ℤ units x.coefficient x.exponent) × (units x.coefficient x.exponent ≤ℤ units (pos degrees) (pos 0))

-- from west to east; if west is greater, from west to 180 degrees, and from -180 degrees to east
abbrev pub IsOnMeridians : Decimal → Decimal → Decimal → Type 0
IsOnMeridians west x east = (IsAtMost west east × IsBetween west x east) ⊎ (IsBelow east west × (IsWithin 180 x × (IsAtMost west x ⊎ IsAtMost x east)))

abbrev pub IsInBox : Point → BoundingBox → Type 0
IsInBox p b = IsBetween b.south p.latitude b.north × IsOnMeridians b.west p.longitude b.east

-- the usage has a bounding box with the point
abbrev pub HasBoxAround : Point → Usage → Type 0
HasBoxAround p u = HasOne (IsInBox p) u.bounding_box

-- some usage does
abbrev pub HasPoint : Point → CrsParts → Type 0
HasPoint p crs = Any (HasBoxAround p) (usages_of crs)
