-- A scale factor that is not within 0.9 and 1.1.
use Rattle.std.specs.Prelude.{ℕ, Bool, ◌&&◌, ◌||◌, List, Option, Some, None, codes}
use Rattle.std.specs.Int.{is_negative}
use Rattle.std.specs.List.{find}
use Rattle.std.specs.Option.{option_map}
use Rattle.crs_number.specs.declared.decimals.Decimal.{Decimal}
use Rattle.crs_part.specs.declared.units.Unit.{Unit}
use Rattle.crs_part.specs.declared.units.Unit.TheVariants.{Length, Angle, Scale, Generic}
use Rattle.crs_part.specs.declared.conversions.Parameter.{Parameter}
use Rattle.crs_part.specs.declared.crs.Single.{Single}
use Rattle.crs_exact.specs.Sizes.{is_below, is_beyond, is_product_below, is_product_beyond}
use Rattle.crs_exact.specs.Parts.{parameters_of}
use Rattle.crs_exact.specs.Said.{parameter_said}
use Rattle.crs_conversion.specs.Kinds.{is_scale_name}

-- not within 0.9 and 1.1
abbrev pub is_off : Decimal → Bool
is_off v = is_negative v.coefficient || is_below v 9 1 || is_beyond v 11 1

-- the product is not
abbrev pub is_product_off : Decimal → Decimal → Bool
is_product_off v f = is_negative v.coefficient || is_product_below v f 9 1 || is_product_beyond v f 11 1

-- in a unit of scale its factor counts, in another unit the number as it stands
abbrev pub is_scale_off : Decimal → Option Unit → Bool
is_scale_off v None = is_off v
is_scale_off v (Some (Length unit)) = is_off v
is_scale_off v (Some (Angle unit)) = is_off v
is_scale_off v (Some (Scale unit)) = is_product_off v unit.factor
is_scale_off v (Some (Generic unit)) = is_off v

abbrev pub is_scale_odd : Parameter → Bool
is_scale_odd p = is_scale_name p.name.bytes && is_scale_off p.value p.unit

abbrev scale_said : Parameter → List ℕ
scale_said p = parameter_said p (codes "map grids have a scale near 1")

abbrev pub scale : Single → Option (List ℕ)
scale crs = option_map scale_said (find is_scale_odd (parameters_of crs))
