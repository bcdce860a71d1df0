-- An ellipsoid of a known name whose semi-major axis differs from the known one by more than 0.1 mm, or whose inverse flattening differs by more than 1.4 x 10^-7, which moves the poles by 0.01 mm.
use Rattle.std.specs.Prelude.{ℕ, ◌+◌, ◌-◌, ◌==◌, Bool, false, ◌||◌, List, [], ◌∷◌, length, Option, Some, None, codes, if◌then◌else◌}
use Rattle.std.specs.List.{concat}
use Rattle.std.specs.Option.{option_and_then}
use Rattle.crs_number.specs.declared.decimals.Decimal.{Decimal}
use Rattle.crs_number.specs.Canonical.{canonical}
use Rattle.crs_part.specs.declared.datums.Ellipsoid.{Ellipsoid}
use Rattle.crs_part.specs.declared.units.LengthUnit.{LengthUnit}
use Rattle.crs_part.specs.declared.crs.Single.{Single}
use Rattle.crs_exact.specs.Parts.{length_of, ellipsoid_in}
use Rattle.crs_exact.specs.Sizes.{is_below, is_beyond, is_product_below, is_product_beyond}
use Rattle.crs_exact.specs.Tables.{before, past, fixed, row_of}
use Rattle.crs_sense.specs.declared.ellipsoids.TheConstants.{ELLIPSOIDS}

-- a row has a name, a semi-major axis in metres, an inverse flattening, a source, and perhaps the semi-major axis as the source has it
abbrev pub radius : List ℕ → List ℕ
radius row = before 59 (past 59 row)

abbrev pub flattening : List ℕ → List ℕ
flattening row = before 59 (past 59 (past 59 row))

abbrev pub source : List ℕ → List ℕ
source row = before 59 (past 59 (past 59 (past 59 row)))

abbrev last : List ℕ → List ℕ
last row = past 59 (past 59 (past 59 (past 59 row)))

abbrev pub radius_said : List ℕ → List ℕ
radius_said row = if length (last row) == 0 then radius row else last row

-- by more than 0.1 mm; without a unit the semi-major axis is in metres
abbrev pub is_radius_off : ℕ → Decimal → Option LengthUnit → Bool
is_radius_off n a None = is_below a (n - 100000) 9 || is_beyond a (n + 100000) 9
is_radius_off n a (Some unit) = is_product_below a (length_of unit).factor (n - 100000) 9 || is_product_beyond a (length_of unit).factor (n + 100000) 9

abbrev pub is_radius_from : Option ℕ → Decimal → Option LengthUnit → Bool
is_radius_from None a unit = false
is_radius_from (Some n) a unit = is_radius_off n a unit

-- by more than 1.4 x 10^-7
abbrev pub is_flattening_from : Option ℕ → Decimal → Bool
is_flattening_from None i = false
is_flattening_from (Some n) i = is_below i (n - 140000) 12 || is_beyond i (n + 140000) 12

abbrev pub is_row_off : List ℕ → Ellipsoid → Bool
is_row_off row e =
    is_radius_from (fixed (codes "000000000") (radius row)) e.radius e.unit
    || is_flattening_from (fixed (codes "000000000000") (flattening row)) e.flattening

abbrev pub ellipsoid_said : Ellipsoid → List ℕ → List ℕ
ellipsoid_said e row =
    concat
    (codes "the ellipsoid \""
    ∷ e.name.bytes
    ∷ codes "\" is given with "
    ∷ canonical e.radius.coefficient e.radius.exponent
    ∷ codes " and 1/f "
    ∷ canonical e.flattening.coefficient e.flattening.exponent
    ∷ codes ", and "
    ∷ source row
    ∷ codes " has "
    ∷ radius_said row
    ∷ codes " and "
    ∷ flattening row
    ∷ [])

abbrev pub beside : Ellipsoid → List ℕ → Option (List ℕ)
beside e row = if is_row_off row e then Some (ellipsoid_said e row) else None

-- an ellipsoid of a known name, with other numbers
abbrev pub ellipsoid_of : Ellipsoid → Option (List ℕ)
ellipsoid_of e = option_and_then (beside e) (row_of ELLIPSOIDS.now e.name.bytes)

abbrev pub ellipsoid : Single → Option (List ℕ)
ellipsoid crs = option_and_then ellipsoid_of (ellipsoid_in crs)
