-- An ellipsoid with a flattening or a semi-minor axis in the place of its inverse flattening, or with the semi-major axis of the Earth in another unit.
use Rattle.std.specs.Prelude.{ℕ, Bool, false, not, ◌&&◌, ◌||◌, List, [], ◌∷◌, Option, Some, None, codes, if◌then◌else◌}
use Rattle.std.specs.Int.{is_positive}
use Rattle.std.specs.List.{concat}
use Rattle.crs_number.specs.Canonical.{canonical}
use Rattle.crs_number.specs.declared.decimals.Decimal.{Decimal}
use Rattle.crs_part.specs.declared.datums.Ellipsoid.{Ellipsoid}
use Rattle.crs_part.specs.declared.units.LengthUnit.{LengthUnit}
use Rattle.crs_part.specs.declared.crs.Single.{Single}
use Rattle.std.specs.Option.{option_and_then}
use Rattle.crs_exact.specs.Sizes.{is_below, is_beyond, is_product_below, is_product_beyond, is_nearly}
use Rattle.crs_exact.specs.Parts.{length_of, ellipsoid_in}

-- from 6,350 to 6,400 kilometres
abbrev pub is_earth : Decimal → Decimal → Bool
is_earth a f = not (is_product_below a f 6350000 0) && not (is_product_beyond a f 6400000 0)

-- the number alone, as metres, kilometres or feet
abbrev pub would_be_earth : Decimal → Bool
would_be_earth a =
    (not (is_below a 6350000 0) && not (is_beyond a 6400000 0))
    || (not (is_below a 6350 0) && not (is_beyond a 6400 0))
    || (not (is_below a 20833334 0) && not (is_beyond a 20997375 0))

-- not an Earth in its unit, or in metres without one
abbrev pub is_no_earth : Decimal → Option LengthUnit → Bool
is_no_earth a None = is_below a 6350000 0 || is_beyond a 6400000 0
is_no_earth a (Some unit) = not (is_earth a (length_of unit).factor)

-- above 0 and below 1: a flattening
abbrev pub is_no_inverse : Decimal → Bool
is_no_inverse i = is_positive i.coefficient && is_below i 1 0

abbrev pub is_figure_odd : Ellipsoid → Bool
is_figure_odd e = is_no_inverse e.flattening || is_nearly e.flattening e.radius || (is_no_earth e.radius e.unit && would_be_earth e.radius)

abbrev pub figure_what : Decimal → Decimal → List ℕ
figure_what a i =
    if is_no_inverse i then codes "is the second number the flattening?"
    else if is_nearly i a then codes "is the second number the semi-minor axis?"
    else codes "in metres, kilometres or feet it would be an Earth"

abbrev pub figure_said : Ellipsoid → List ℕ
figure_said e =
    concat
    (codes "\""
    ∷ e.name.bytes
    ∷ codes "\" has the semi-major axis "
    ∷ canonical e.radius.coefficient e.radius.exponent
    ∷ codes " and the inverse flattening "
    ∷ canonical e.flattening.coefficient e.flattening.exponent
    ∷ codes ": "
    ∷ figure_what e.radius e.flattening
    ∷ [])

abbrev pub figure_of : Ellipsoid → Option (List ℕ)
figure_of e = if is_figure_odd e then Some (figure_said e) else None

abbrev pub figure : Single → Option (List ℕ)
figure crs = option_and_then figure_of (ellipsoid_in crs)
