-- A projected system whose conversion is not that of the zone that its name says.
use Rattle.std.specs.Prelude.{ℕ, ◌+◌, ◌*◌, ◌-◌, ◌%◌, ◌==◌, nat_le, Bool, true, false, not, ◌&&◌, ◌||◌, List, [], ◌∷◌, Option, Some, None, codes, decimal, pos, negsuc, if◌then◌else◌}
use Rattle.std.specs.Int.{is_negative}
use Rattle.std.specs.Ordering.{int_eq}
use Rattle.std.specs.List.{find, concat}
use Rattle.std.specs.Option.{option_or, option_and_then}
use Rattle.crs_number.specs.declared.decimals.Decimal.{Decimal}
use Rattle.crs_part.specs.declared.units.Unit.{Unit}
use Rattle.crs_part.specs.declared.units.AngleUnit.{AngleUnit}
use Rattle.crs_part.specs.declared.conversions.Parameter.{Parameter}
use Rattle.crs_part.specs.declared.crs.Projected.{Projected}
use Rattle.crs_part.specs.declared.crs.Single.{Single}
use Rattle.crs_exact.specs.Angles.{is_elsewhere}
use Rattle.crs_exact.specs.Names.{is_named}
use Rattle.crs_exact.specs.Parts.{unit_of, own_or_base, projected_in}
use Rattle.crs_exact.specs.Said.{parameter_said}
use Rattle.crs_exact.specs.Sizes.{is_below, is_beyond, is_product_below, is_product_beyond}
use Rattle.crs_meridians.specs.declared.grid.Grid.{Grid}
use Rattle.crs_meridians.specs.declared.grid.Grid.TheVariants.{UtmNorth, UtmSouth, Utm, Three, Six}
use Rattle.crs_meridians.specs.declared.grid.Zone.{Zone}
use Rattle.crs_meridians.specs.Meridian.{is_central, is_at_greenwich}
use Rattle.crs_meridians.specs.ZoneName.{width_said, zone_said, is_west_in, degrees_in}

-- the length is so many metres, to a centimetre; without a unit it is in metres
abbrev pub is_length : Decimal → Option Unit → ℕ → Bool
is_length v None n = (n == 0 || not (is_negative v.coefficient)) && not (is_below v (n * 100 - 1) 2) && not (is_beyond v (n * 100 + 1) 2)
is_length v (Some unit) n =
    (n == 0 || not (is_negative v.coefficient))
    && not (is_product_below v (unit_of unit).factor (n * 100 - 1) 2)
    && not (is_product_beyond v (unit_of unit).factor (n * 100 + 1) 2)

abbrev pub is_utm : Grid → Bool
is_utm UtmNorth = true
is_utm UtmSouth = true
is_utm Utm = true
is_utm Three = false
is_utm Six = false

-- so many metres, with the number of the zone or its last digit in front or not
abbrev pub is_easting_from : Decimal → Option Unit → ℕ → ℕ → Bool
is_easting_from v unit n m = is_length v unit m || is_length v unit (n * 1000000 + m) || is_length v unit (n % 10 * 1000000 + m)

-- 500 km, and in zones of Gauss-Kruger also 250 km
abbrev pub is_easting : Grid → Decimal → Option Unit → ℕ → Bool
is_easting grid v unit n = is_easting_from v unit n 500000 || (not (is_utm grid) && is_easting_from v unit n 250000)

-- 0 in the north, 10,000 km in the south
abbrev pub is_northing : Grid → Decimal → Option Unit → Bool
is_northing UtmNorth v unit = is_length v unit 0
is_northing UtmSouth v unit = is_length v unit 10000000
is_northing Utm v unit = is_length v unit 0 || is_length v unit 10000000
is_northing Three v unit = true
is_northing Six v unit = true

abbrev pub is_latitude : List ℕ → Bool
is_latitude n = is_named (codes "latitude of natural origin") n || is_named (codes "latitude of origin") n

abbrev pub is_scale : List ℕ → Bool
is_scale n = is_named (codes "scale factor at natural origin") n || is_named (codes "scale factor") n

-- 0.9996 in zones of UTM, 1 in those of Gauss-Kruger
abbrev pub is_scale_of : Grid → Decimal → Bool
is_scale_of grid v = if is_utm grid then int_eq v.coefficient (pos 9996) && int_eq v.exponent (negsuc 3) else int_eq v.coefficient (pos 1) && int_eq v.exponent (pos 0)

abbrev pub minus_said : Bool → List ℕ
minus_said is_west = if is_west then codes "-" else []

-- the central meridian of a zone
abbrev pub meridian_of : Zone → List ℕ
meridian_of z =
    concat
    (codes "the central meridian of zone "
    ∷ decimal z.number
    ∷ codes " is "
    ∷ minus_said (is_west_in z.grid z.number)
    ∷ decimal (degrees_in z.grid z.number)
    ∷ codes " degrees"
    ∷ [])

-- the false northing of zones of UTM
abbrev pub northing_of : Grid → List ℕ
northing_of UtmNorth = codes "zones of UTM in the north have 0 metres"
northing_of UtmSouth = codes "zones of UTM in the south have 10000000 metres"
northing_of Utm = codes "zones of UTM have 0 metres in the north and 10000000 metres in the south"
northing_of Three = []
northing_of Six = []

abbrev pub scale_wanted : Grid → List ℕ
scale_wanted grid = if is_utm grid then codes "zones of UTM have 0.9996" else codes "zones of Gauss-Kruger have 1"

abbrev pub easting_wanted : Grid → List ℕ
easting_wanted grid =
    if is_utm grid then codes "zones of UTM have 500000 metres, perhaps behind their number"
    else codes "zones of Gauss-Kruger have 500000 or 250000 metres, perhaps behind their number"

-- what all zones have for a parameter of this name
abbrev pub constant_of : Grid → List ℕ → List ℕ
constant_of grid n =
    if is_latitude n then codes "zones of UTM have 0 degrees"
    else if is_scale n then scale_wanted grid
    else if is_named (codes "false easting") n then easting_wanted grid
    else northing_of grid

abbrev pub wanted : Zone → List ℕ → List ℕ
wanted z n = if is_central n then meridian_of z else constant_of z.grid n

-- a latitude of origin or a false northing that no zone of UTM has
abbrev pub is_utm_off : Zone → Option Unit → Parameter → Bool
is_utm_off z axis p =
    (is_latitude p.name.bytes && not (int_eq p.value.coefficient (pos 0)))
    || (is_named (codes "false northing") p.name.bytes && not (is_northing z.grid p.value (option_or p.unit axis)))

-- the scale or the false easting of another zone
abbrev pub is_other_off : Zone → Option Unit → Parameter → Bool
is_other_off z axis p =
    (is_scale p.name.bytes && not (is_scale_of z.grid p.value))
    || (is_named (codes "false easting") p.name.bytes && not (is_easting z.grid p.value (option_or p.unit axis) z.number))

abbrev pub is_longitude_off : Zone → Option AngleUnit → Parameter → Bool
is_longitude_off z base p = is_elsewhere p.value (own_or_base p.unit base) (is_west_in z.grid z.number) (degrees_in z.grid z.number * 1000000) 1

abbrev pub is_off_in : Zone → Option AngleUnit → Option Unit → Parameter → Bool
is_off_in z base axis p = (is_central p.name.bytes && is_longitude_off z base p) || (is_utm z.grid && is_utm_off z axis p) || is_other_off z axis p

-- a parameter that is not that of the zone; the numbers of zones have two digits at most
abbrev pub is_parameter_off : Zone → Option AngleUnit → Option Unit → Parameter → Bool
is_parameter_off z base axis p = nat_le z.number 99 && is_off_in z base axis p

-- the zone in the name of the system, if that says how wide its zones are; or that in the name of its conversion, or else in its own
abbrev pub zone_in : Projected → Option Zone
zone_in crs = option_or (width_said crs.name.bytes) (option_or (zone_said crs.conversion.name.bytes) (zone_said crs.name.bytes))

abbrev pub off_said : Zone → Parameter → Option (List ℕ)
off_said z p = if nat_le z.number 99 then Some (parameter_said p (wanted z p.name.bytes)) else None

abbrev pub off_from : Option AngleUnit → Option Unit → List Parameter → Zone → Option (List ℕ)
off_from base axis ps z = option_and_then (off_said z) (find (is_parameter_off z base axis) ps)

-- the first parameter that is not that of the zone, with its value and that of the zone
abbrev pub off_in : Projected → Option (List ℕ)
off_in crs =
    if is_at_greenwich crs.base.prime_meridian then option_and_then (off_from crs.base.unit (option_or crs.axes.first.unit crs.unit) crs.conversion.parameters) (zone_in crs)
    else None

abbrev pub zone : Single → Option (List ℕ)
zone crs = option_and_then off_in (projected_in crs)
