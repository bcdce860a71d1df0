-- A system whose name has `(ftUS)`, `(ft)` or `(m)`, and no axis of which has that unit.
use Rattle.std.specs.Prelude.{ℕ, Bool, false, ◌&&◌, ◌||◌, List, [], ◌∷◌, Option, Some, None, codes, if◌then◌else◌}
use Rattle.std.specs.List.{list_all, concat}
use Rattle.std.specs.Option.{option_or}
use Rattle.crs_number.specs.declared.decimals.Decimal.{Decimal}
use Rattle.crs_part.specs.declared.units.Unit.{Unit}
use Rattle.crs_part.specs.declared.systems.Axis.{Axis}
use Rattle.crs_part.specs.declared.text.Text.{Text}
use Rattle.crs_part.specs.declared.many.NonEmpty.{NonEmpty}
use Rattle.crs_part.specs.declared.crs.Single.{Single}
use Rattle.crs_part.specs.declared.crs.Single.TheVariants.{Geodetic, Projected, Vertical}
use Rattle.crs_part.specs.Slots.{items_of}
use Rattle.crs_sense.specs.declared.unit_name.UnitMark.{UnitMark}
use Rattle.crs_sense.specs.declared.unit_name.UnitMark.TheVariants.{SurveyFoot, Foot, Metre}
use Rattle.crs_exact.specs.Names.{has_part}
use Rattle.crs_exact.specs.Sizes.{is_below, is_beyond}
use Rattle.crs_exact.specs.Parts.{unit_of}
use Rattle.crs_exact.specs.Said.{unit_said}

-- more than one part in 10^9 from 0.304800609601219, 0.3048 or 1
abbrev pub is_no : UnitMark → Decimal → Bool
is_no SurveyFoot f = is_below f 304800609296418390398781 24 || is_beyond f 304800609906019609601219 24
is_no Foot f = is_below f 3047999996952 13 || is_beyond f 3048000003048 13
is_no Metre f = is_below f 999999999 9 || is_beyond f 1000000001 9

-- there is a unit, and it is not the mark's
abbrev pub is_no_unit : UnitMark → Option Unit → Bool
is_no_unit mark None = false
is_no_unit mark (Some unit) = is_no mark (unit_of unit).factor

-- the unit of no axis is the mark's; an axis has its own unit, or else the common one
abbrev pub none_is : UnitMark → List Axis → Option Unit → Bool
none_is mark axes common = list_all (λ axis. is_no_unit mark (option_or axis.unit common)) axes

abbrev pub is_misnamed : List ℕ → List Axis → Option Unit → Bool
is_misnamed name axes common =
    (has_part (codes "(ftUS)") name && none_is SurveyFoot axes common)
    || (has_part (codes "(ft)") name && none_is Foot axes common)
    || (has_part (codes "(m)") name && none_is Metre axes common)

abbrev pub unit_name_said : List ℕ → Option Unit → List ℕ
unit_name_said name unit = concat (codes "\"" ∷ name ∷ codes "\", and its axes are in " ∷ unit_said unit ∷ [])

abbrev pub misnamed : Text → NonEmpty Axis → Option Unit → Option (List ℕ)
misnamed name axes common =
    if is_misnamed name.bytes (items_of axes) common then Some (unit_name_said name.bytes (option_or axes.first.unit common))
    else None

abbrev pub unit_name : Single → Option (List ℕ)
unit_name (Geodetic crs) = None
unit_name (Projected crs) = misnamed crs.name crs.axes crs.unit
unit_name (Vertical crs) = misnamed crs.name crs.axes crs.unit
