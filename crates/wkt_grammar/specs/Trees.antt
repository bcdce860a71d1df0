-- The canonical tree of each value: a line a slot, in the order of its row.
use Rattle.std.specs.Prelude.{ℕ, List, [], ◌∷◌, ◌++◌, map, decimal, Option, Some, None}
use Rattle.crs_number.specs.Canonical.{canonical}
use Rattle.crs_number.specs.declared.decimals.Decimal.{Decimal}
use Rattle.crs_part.specs.declared.text.Text.{Text}
use Rattle.crs_part.specs.declared.identifiers.NumberOrText.{NumberOrText}
use Rattle.crs_part.specs.declared.identifiers.NumberOrText.TheVariants as code
use Rattle.crs_part.specs.declared.identifiers.Ident.{Ident}
use Rattle.crs_part.specs.declared.identifiers.Named.{Named}
use Rattle.crs_part.specs.declared.units.UnitDefinition.{UnitDefinition}
use Rattle.crs_part.specs.declared.units.Unit as units
use Rattle.crs_part.specs.declared.units.Unit.TheVariants as unit
use Rattle.crs_part.specs.declared.units.LengthUnit.{LengthUnit}
use Rattle.crs_part.specs.declared.units.LengthUnit.TheVariants as length_unit
use Rattle.crs_part.specs.declared.units.AngleUnit.{AngleUnit}
use Rattle.crs_part.specs.declared.units.AngleUnit.TheVariants as angle_unit
use Rattle.crs_part.specs.declared.usages.BoundingBox.{BoundingBox}
use Rattle.crs_part.specs.declared.usages.VerticalExtent.{VerticalExtent}
use Rattle.crs_part.specs.declared.usages.Usage.{Usage}
use Rattle.crs_part.specs.declared.datums.Ellipsoid.{Ellipsoid}
use Rattle.crs_part.specs.declared.datums.PrimeMeridian.{PrimeMeridian}
use Rattle.crs_part.specs.declared.datums.Datum.{Datum}
use Rattle.crs_part.specs.declared.datums.GeodeticEnsemble.{GeodeticEnsemble}
use Rattle.crs_part.specs.declared.datums.GeodeticFrame.{GeodeticFrame}
use Rattle.crs_part.specs.declared.datums.GeodeticFrame.TheVariants as geodetic_frame
use Rattle.crs_part.specs.declared.datums.VerticalDatum.{VerticalDatum}
use Rattle.crs_part.specs.declared.datums.VerticalEnsemble.{VerticalEnsemble}
use Rattle.crs_part.specs.declared.datums.VerticalFrame.{VerticalFrame}
use Rattle.crs_part.specs.declared.datums.VerticalFrame.TheVariants as vertical_frame
use Rattle.crs_part.specs.declared.systems.CoordSystem.{CoordSystem}
use Rattle.crs_part.specs.declared.systems.Direction.{Direction}
use Rattle.crs_part.specs.declared.systems.SystemKind.{SystemKind}
use Rattle.crs_part.specs.declared.systems.Meridian.{Meridian}
use Rattle.crs_part.specs.declared.systems.Order.{Order}
use Rattle.crs_part.specs.declared.systems.Axis.{Axis}
use Rattle.crs_part.specs.declared.conversions.Parameter.{Parameter}
use Rattle.crs_part.specs.declared.conversions.Conversion.{Conversion}
use Rattle.crs_part.specs.declared.crs.BaseCrs.{BaseCrs}
use Rattle.crs_part.specs.declared.crs.Geodetic.{Geodetic}
use Rattle.crs_part.specs.declared.crs.Projected.{Projected}
use Rattle.crs_part.specs.declared.crs.Vertical as verticals
use Rattle.crs_part.specs.declared.crs.Single.{Single}
use Rattle.crs_part.specs.declared.crs.Single.TheVariants as single
use Rattle.crs_part.specs.declared.crs.Compound.{Compound}
use Rattle.crs_part.specs.declared.crs.CrsParts.{CrsParts}
use Rattle.crs_part.specs.declared.crs.CrsParts.TheVariants as parts
use Rattle.wkt_tree.specs.Tokens.{quoted}
use Rattle.wkt_grammar.specs.declared.table.Keyword.{Keyword}
use Rattle.wkt_grammar.specs.declared.table.Keyword.TheVariants as keywords
use Rattle.wkt_grammar.specs.Words.{spelling}
use Rattle.wkt_grammar.specs.Bare.{Bare, text, number, word, node, bares}
use Rattle.wkt_grammar.specs.Denotes.{geodetic_keyword, base_keyword}
use Rattle.wkt_grammar.specs.Runs.{listed}
use Rattle.crs_part.specs.Words.{system_word, direction_word}

-- ---- runs of arguments

abbrev pub one : Bare → List Bare
one x = x ∷ []

abbrev pub maybe : {A : Type 0} → (A → Bare) → Option A → List Bare
maybe f None = []
maybe f (Some v) = f v ∷ []

abbrev pub joined : List (List Bare) → List Bare
joined [] = []
joined (run ∷ runs) = run ++ joined runs

-- a node with this keyword and these runs
abbrev pub branch : Keyword → List (List Bare) → Bare
branch keyword runs = node (spelling keyword) (bares (joined runs))

-- ---- leaves

abbrev pub text_tree : Text → Bare
text_tree t = text (quoted t.bytes)

abbrev pub number_tree : Decimal → Bare
number_tree d = number (canonical d.coefficient d.exponent)

abbrev pub count_tree : ℕ → Bare
count_tree n = number (decimal n)

abbrev pub kind_tree : SystemKind → Bare
kind_tree v = word (system_word v)

abbrev pub direction_tree : Direction → Bare
direction_tree v = word (direction_word v)

abbrev pub code_tree : NumberOrText → Bare
code_tree (code.Number d) = number_tree d
code_tree (code.Text t) = text_tree t

-- SCOPE, AREA, ANCHOR, CITATION, URI, REMARK
abbrev pub value_tree : Keyword → Text → Bare
value_tree keyword v = branch keyword (one (text_tree v) ∷ [])

-- ---- identifiers

abbrev pub ident_tree : Ident → Bare
ident_tree v = branch keywords.Identifier (
    one (text_tree v.authority)
    ∷ one (code_tree v.code)
    ∷ maybe code_tree v.version
    ∷ maybe (value_tree keywords.Citation) v.citation
    ∷ maybe (value_tree keywords.Uri) v.uri
    ∷ []
    )

abbrev pub named_tree : Keyword → Named → Bare
named_tree keyword v = branch keyword (one (text_tree v.name) ∷ map ident_tree v.ids ∷ [])

-- ---- units

abbrev pub unit_of_tree : Keyword → UnitDefinition → Bare
unit_of_tree keyword v = branch keyword (one (text_tree v.name) ∷ one (number_tree v.factor) ∷ map ident_tree v.ids ∷ [])

abbrev pub unit_tree : units.Unit → Bare
unit_tree (unit.Length v) = unit_of_tree keywords.LengthUnit v
unit_tree (unit.Angle v) = unit_of_tree keywords.AngleUnit v
unit_tree (unit.Scale v) = unit_of_tree keywords.ScaleUnit v
unit_tree (unit.Generic v) = unit_of_tree keywords.Unit v

abbrev pub length_unit_tree : LengthUnit → Bare
length_unit_tree (length_unit.Length v) = unit_of_tree keywords.LengthUnit v
length_unit_tree (length_unit.Generic v) = unit_of_tree keywords.Unit v

abbrev pub angle_unit_tree : AngleUnit → Bare
angle_unit_tree (angle_unit.Angle v) = unit_of_tree keywords.AngleUnit v
angle_unit_tree (angle_unit.Generic v) = unit_of_tree keywords.Unit v

-- ---- usages

abbrev pub bounding_box_tree : BoundingBox → Bare
bounding_box_tree v = branch keywords.BoundingBox (
    one (number_tree v.south)
    ∷ one (number_tree v.west)
    ∷ one (number_tree v.north)
    ∷ one (number_tree v.east)
    ∷ []
    )

abbrev pub vertical_extent_tree : VerticalExtent → Bare
vertical_extent_tree v = branch keywords.VerticalExtent (
    one (number_tree v.low)
    ∷ one (number_tree v.high)
    ∷ maybe length_unit_tree v.unit
    ∷ []
    )

abbrev pub usage_tree : Usage → Bare
usage_tree v = branch keywords.Usage (
    one (value_tree keywords.Scope v.scope)
    ∷ maybe (value_tree keywords.Area) v.area
    ∷ maybe bounding_box_tree v.bounding_box
    ∷ maybe vertical_extent_tree v.vertical_extent
    ∷ []
    )

-- ---- datums

abbrev pub ellipsoid_tree : Ellipsoid → Bare
ellipsoid_tree v = branch keywords.Ellipsoid (
    one (text_tree v.name)
    ∷ one (number_tree v.radius)
    ∷ one (number_tree v.flattening)
    ∷ maybe length_unit_tree v.unit
    ∷ map ident_tree v.ids
    ∷ []
    )

abbrev pub prime_meridian_tree : PrimeMeridian → Bare
prime_meridian_tree v = branch keywords.PrimeMeridian (
    one (text_tree v.name)
    ∷ one (number_tree v.longitude)
    ∷ maybe angle_unit_tree v.unit
    ∷ map ident_tree v.ids
    ∷ []
    )

abbrev pub datum_tree : Datum → Bare
datum_tree v = branch keywords.Datum (
    one (text_tree v.name)
    ∷ one (ellipsoid_tree v.ellipsoid)
    ∷ maybe (value_tree keywords.Anchor) v.anchor
    ∷ map ident_tree v.ids
    ∷ []
    )

abbrev pub vertical_datum_tree : VerticalDatum → Bare
vertical_datum_tree v = branch keywords.VerticalDatum (
    one (text_tree v.name)
    ∷ maybe (value_tree keywords.Anchor) v.anchor
    ∷ map ident_tree v.ids
    ∷ []
    )

abbrev pub accuracy_tree : Decimal → Bare
accuracy_tree v = branch keywords.EnsembleAccuracy (one (number_tree v) ∷ [])

abbrev pub geodetic_ensemble_tree : GeodeticEnsemble → Bare
geodetic_ensemble_tree v = branch keywords.Ensemble (
    one (text_tree v.name)
    ∷ map (named_tree keywords.Member) (listed v.members)
    ∷ one (ellipsoid_tree v.ellipsoid)
    ∷ one (accuracy_tree v.accuracy)
    ∷ map ident_tree v.ids
    ∷ []
    )

abbrev pub vertical_ensemble_tree : VerticalEnsemble → Bare
vertical_ensemble_tree v = branch keywords.Ensemble (
    one (text_tree v.name)
    ∷ map (named_tree keywords.Member) (listed v.members)
    ∷ one (accuracy_tree v.accuracy)
    ∷ map ident_tree v.ids
    ∷ []
    )

abbrev pub geodetic_frame_tree : GeodeticFrame → Bare
geodetic_frame_tree (geodetic_frame.Datum v) = datum_tree v
geodetic_frame_tree (geodetic_frame.Ensemble v) = geodetic_ensemble_tree v

abbrev pub vertical_frame_tree : VerticalFrame → Bare
vertical_frame_tree (vertical_frame.Datum v) = vertical_datum_tree v
vertical_frame_tree (vertical_frame.Ensemble v) = vertical_ensemble_tree v

-- ---- coordinate systems

abbrev pub system_tree : CoordSystem → Bare
system_tree v = branch keywords.CoordinateSystem (one (kind_tree v.kind) ∷ one (count_tree v.dimension) ∷ map ident_tree v.ids ∷ [])

abbrev pub meridian_tree : Meridian → Bare
meridian_tree v = branch keywords.Meridian (one (number_tree v.longitude) ∷ one (angle_unit_tree v.unit) ∷ [])

abbrev pub order_tree : Order → Bare
order_tree v = branch keywords.Order (one (count_tree v.position) ∷ [])

abbrev pub axis_tree : Axis → Bare
axis_tree v = branch keywords.Axis (
    one (text_tree v.name)
    ∷ one (direction_tree v.direction)
    ∷ maybe meridian_tree v.meridian
    ∷ maybe order_tree v.order
    ∷ maybe unit_tree v.unit
    ∷ map ident_tree v.ids
    ∷ []
    )

-- ---- conversions

abbrev pub parameter_tree : Parameter → Bare
parameter_tree v = branch keywords.Parameter (
    one (text_tree v.name)
    ∷ one (number_tree v.value)
    ∷ maybe unit_tree v.unit
    ∷ map ident_tree v.ids
    ∷ []
    )

abbrev pub conversion_tree : Conversion → Bare
conversion_tree v = branch keywords.Conversion (
    one (text_tree v.name)
    ∷ one (named_tree keywords.Method v.method)
    ∷ map parameter_tree v.parameters
    ∷ map ident_tree v.ids
    ∷ []
    )

-- ---- coordinate reference systems

abbrev pub base_tree : BaseCrs → Bare
base_tree v = branch (base_keyword v.kind) (
    one (text_tree v.name)
    ∷ one (geodetic_frame_tree v.datum)
    ∷ maybe prime_meridian_tree v.prime_meridian
    ∷ maybe angle_unit_tree v.unit
    ∷ map ident_tree v.ids
    ∷ []
    )

abbrev pub geodetic_tree : Geodetic → Bare
geodetic_tree v = branch (geodetic_keyword v.kind) (
    one (text_tree v.name)
    ∷ one (geodetic_frame_tree v.datum)
    ∷ maybe prime_meridian_tree v.prime_meridian
    ∷ one (system_tree v.system)
    ∷ map axis_tree (listed v.axes)
    ∷ maybe unit_tree v.unit
    ∷ map usage_tree v.usages
    ∷ map ident_tree v.ids
    ∷ maybe (value_tree keywords.Remark) v.remark
    ∷ []
    )

abbrev pub projected_tree : Projected → Bare
projected_tree v = branch keywords.ProjectedCrs (
    one (text_tree v.name)
    ∷ one (base_tree v.base)
    ∷ one (conversion_tree v.conversion)
    ∷ one (system_tree v.system)
    ∷ map axis_tree (listed v.axes)
    ∷ maybe unit_tree v.unit
    ∷ map usage_tree v.usages
    ∷ map ident_tree v.ids
    ∷ maybe (value_tree keywords.Remark) v.remark
    ∷ []
    )

abbrev pub vertical_tree : verticals.Vertical → Bare
vertical_tree v = branch keywords.VerticalCrs (
    one (text_tree v.name)
    ∷ one (vertical_frame_tree v.datum)
    ∷ one (system_tree v.system)
    ∷ map axis_tree (listed v.axes)
    ∷ maybe unit_tree v.unit
    ∷ map (named_tree keywords.GeoidModel) v.geoid_models
    ∷ map usage_tree v.usages
    ∷ map ident_tree v.ids
    ∷ maybe (value_tree keywords.Remark) v.remark
    ∷ []
    )

abbrev pub single_tree : Single → Bare
single_tree (single.Geodetic v) = geodetic_tree v
single_tree (single.Projected v) = projected_tree v
single_tree (single.Vertical v) = vertical_tree v

abbrev pub compound_tree : Compound → Bare
compound_tree v = branch keywords.CompoundCrs (
    one (text_tree v.name)
    ∷ one (single_tree v.first)
    ∷ one (single_tree v.second)
    ∷ map usage_tree v.usages
    ∷ map ident_tree v.ids
    ∷ maybe (value_tree keywords.Remark) v.remark
    ∷ []
    )

abbrev pub parts_tree : CrsParts → Bare
parts_tree (parts.Single v) = single_tree v
parts_tree (parts.Compound v) = compound_tree v
