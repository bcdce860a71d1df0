-- The value that each node denotes: a line a slot, in the order of its row.
use Rattle.crs_number.specs.declared.decimals.Decimal.{Decimal}
use Rattle.crs_part.specs.declared.text.Text.{Text}
use Rattle.crs_part.specs.declared.identifiers.NumberOrText.{NumberOrText}
use Rattle.crs_part.specs.declared.identifiers.NumberOrText.TheVariants as code
use Rattle.crs_part.specs.declared.identifiers.Ident.{Ident}
use Rattle.crs_part.specs.declared.identifiers.Named.{Named}
use Rattle.crs_part.specs.declared.units.UnitDefinition.{UnitDefinition}
use Rattle.crs_part.specs.declared.units.Unit as units
use Rattle.crs_part.specs.declared.units.Unit.TheVariants as unit
use Rattle.crs_part.specs.declared.units.LengthUnit.{LengthUnit}
use Rattle.crs_part.specs.declared.units.LengthUnit.TheVariants as length_unit
use Rattle.crs_part.specs.declared.units.AngleUnit.{AngleUnit}
use Rattle.crs_part.specs.declared.units.AngleUnit.TheVariants as angle_unit
use Rattle.crs_part.specs.declared.usages.BoundingBox.{BoundingBox}
use Rattle.crs_part.specs.declared.usages.VerticalExtent.{VerticalExtent}
use Rattle.crs_part.specs.declared.usages.Usage.{Usage}
use Rattle.crs_part.specs.declared.datums.Ellipsoid.{Ellipsoid}
use Rattle.crs_part.specs.declared.datums.PrimeMeridian.{PrimeMeridian}
use Rattle.crs_part.specs.declared.datums.Datum.{Datum}
use Rattle.crs_part.specs.declared.datums.GeodeticEnsemble.{GeodeticEnsemble}
use Rattle.crs_part.specs.declared.datums.GeodeticFrame.{GeodeticFrame}
use Rattle.crs_part.specs.declared.datums.GeodeticFrame.TheVariants as geodetic_frame
use Rattle.crs_part.specs.declared.datums.VerticalDatum.{VerticalDatum}
use Rattle.crs_part.specs.declared.datums.VerticalEnsemble.{VerticalEnsemble}
use Rattle.crs_part.specs.declared.datums.VerticalFrame.{VerticalFrame}
use Rattle.crs_part.specs.declared.datums.VerticalFrame.TheVariants as vertical_frame
use Rattle.crs_part.specs.declared.systems.CoordSystem.{CoordSystem}
use Rattle.crs_part.specs.declared.systems.Meridian.{Meridian}
use Rattle.crs_part.specs.declared.systems.Order.{Order}
use Rattle.crs_part.specs.declared.systems.Axis.{Axis}
use Rattle.crs_part.specs.declared.conversions.Parameter.{Parameter}
use Rattle.crs_part.specs.declared.conversions.Conversion.{Conversion}
use Rattle.crs_part.specs.declared.crs.GeodeticKind.{GeodeticKind}
use Rattle.crs_part.specs.declared.crs.GeodeticKind.TheVariants as geodetic_kind
use Rattle.crs_part.specs.declared.crs.BaseCrs.{BaseCrs}
use Rattle.crs_part.specs.declared.crs.Geodetic.{Geodetic}
use Rattle.crs_part.specs.declared.crs.Projected.{Projected}
use Rattle.crs_part.specs.declared.crs.Vertical as verticals
use Rattle.crs_part.specs.declared.crs.Single.{Single}
use Rattle.crs_part.specs.declared.crs.Single.TheVariants as single
use Rattle.crs_part.specs.declared.crs.Compound.{Compound}
use Rattle.crs_part.specs.declared.crs.CrsParts.{CrsParts}
use Rattle.crs_part.specs.declared.crs.CrsParts.TheVariants as parts
use Rattle.wkt_grammar.specs.declared.table.Keyword.{Keyword}
use Rattle.wkt_grammar.specs.declared.table.Keyword.TheVariants as keywords
use Rattle.wkt_grammar.specs.declared.table.Node.TheVariants as nodes
use Rattle.wkt_grammar.specs.Bare.{Bare}
use Rattle.wkt_grammar.specs.Runs.{Fields, nothing, ◌&◌, IsNode, One, Maybe, Each, AtLeastOne}
use Rattle.wkt_grammar.specs.Leaves.{DenotesText, DenotesNumber, DenotesCount, DenotesWord}
use Rattle.crs_part.specs.Words.{system_word, direction_word}

-- SCOPE, AREA, ANCHOR, CITATION, URI, REMARK: a text
abbrev pub value_fields : Text → Fields
value_fields v = One DenotesText v & nothing

abbrev pub DenotesValue : Keyword → Bare → Text → Type 0
DenotesValue keyword x v = IsNode keyword nodes.Value (value_fields v) x

-- ---- identifiers

abbrev pub DenotesCode : Bare → NumberOrText → Type 0
DenotesCode x (code.Number d) = DenotesNumber x d
DenotesCode x (code.Text t) = DenotesText x t

abbrev pub ident_fields : Ident → Fields
ident_fields v =
    One DenotesText v.authority
    & One DenotesCode v.code
    & Maybe DenotesCode v.version
    & Maybe (DenotesValue keywords.Citation) v.citation
    & Maybe (DenotesValue keywords.Uri) v.uri
    & nothing

abbrev pub DenotesIdent : Bare → Ident → Type 0
DenotesIdent x v = IsNode keywords.Identifier nodes.Identifier (ident_fields v) x

-- MEMBER, METHOD, GEOIDMODEL: a name
abbrev pub named_fields : Named → Fields
named_fields v = One DenotesText v.name & Each DenotesIdent v.ids & nothing

abbrev pub DenotesNamed : Keyword → Bare → Named → Type 0
DenotesNamed keyword x v = IsNode keyword nodes.Named (named_fields v) x

-- ---- units

abbrev pub unit_fields : UnitDefinition → Fields
unit_fields v = One DenotesText v.name & One DenotesNumber v.factor & Each DenotesIdent v.ids & nothing

abbrev pub DenotesUnitOf : Keyword → Bare → UnitDefinition → Type 0
DenotesUnitOf keyword x v = IsNode keyword nodes.Unit (unit_fields v) x

abbrev pub DenotesUnit : Bare → units.Unit → Type 0
DenotesUnit x (unit.Length v) = DenotesUnitOf keywords.LengthUnit x v
DenotesUnit x (unit.Angle v) = DenotesUnitOf keywords.AngleUnit x v
DenotesUnit x (unit.Scale v) = DenotesUnitOf keywords.ScaleUnit x v
DenotesUnit x (unit.Generic v) = DenotesUnitOf keywords.Unit x v

abbrev pub DenotesLengthUnit : Bare → LengthUnit → Type 0
DenotesLengthUnit x (length_unit.Length v) = DenotesUnitOf keywords.LengthUnit x v
DenotesLengthUnit x (length_unit.Generic v) = DenotesUnitOf keywords.Unit x v

abbrev pub DenotesAngleUnit : Bare → AngleUnit → Type 0
DenotesAngleUnit x (angle_unit.Angle v) = DenotesUnitOf keywords.AngleUnit x v
DenotesAngleUnit x (angle_unit.Generic v) = DenotesUnitOf keywords.Unit x v

-- ---- usages

abbrev pub bounding_box_fields : BoundingBox → Fields
bounding_box_fields v =
    One DenotesNumber v.south
    & One DenotesNumber v.west
    & One DenotesNumber v.north
    & One DenotesNumber v.east
    & nothing

abbrev pub DenotesBoundingBox : Bare → BoundingBox → Type 0
DenotesBoundingBox x v = IsNode keywords.BoundingBox nodes.BoundingBox (bounding_box_fields v) x

abbrev pub vertical_extent_fields : VerticalExtent → Fields
vertical_extent_fields v =
    One DenotesNumber v.low
    & One DenotesNumber v.high
    & Maybe DenotesLengthUnit v.unit
    & nothing

abbrev pub DenotesVerticalExtent : Bare → VerticalExtent → Type 0
DenotesVerticalExtent x v = IsNode keywords.VerticalExtent nodes.VerticalExtent (vertical_extent_fields v) x

abbrev pub usage_fields : Usage → Fields
usage_fields v =
    One (DenotesValue keywords.Scope) v.scope
    & Maybe (DenotesValue keywords.Area) v.area
    & Maybe DenotesBoundingBox v.bounding_box
    & Maybe DenotesVerticalExtent v.vertical_extent
    & nothing

abbrev pub DenotesUsage : Bare → Usage → Type 0
DenotesUsage x v = IsNode keywords.Usage nodes.Usage (usage_fields v) x

-- ---- datums

abbrev pub ellipsoid_fields : Ellipsoid → Fields
ellipsoid_fields v =
    One DenotesText v.name
    & One DenotesNumber v.radius
    & One DenotesNumber v.flattening
    & Maybe DenotesLengthUnit v.unit
    & Each DenotesIdent v.ids
    & nothing

abbrev pub DenotesEllipsoid : Bare → Ellipsoid → Type 0
DenotesEllipsoid x v = IsNode keywords.Ellipsoid nodes.Ellipsoid (ellipsoid_fields v) x

abbrev pub prime_meridian_fields : PrimeMeridian → Fields
prime_meridian_fields v =
    One DenotesText v.name
    & One DenotesNumber v.longitude
    & Maybe DenotesAngleUnit v.unit
    & Each DenotesIdent v.ids
    & nothing

abbrev pub DenotesPrimeMeridian : Bare → PrimeMeridian → Type 0
DenotesPrimeMeridian x v = IsNode keywords.PrimeMeridian nodes.PrimeMeridian (prime_meridian_fields v) x

abbrev pub datum_fields : Datum → Fields
datum_fields v =
    One DenotesText v.name
    & One DenotesEllipsoid v.ellipsoid
    & Maybe (DenotesValue keywords.Anchor) v.anchor
    & Each DenotesIdent v.ids
    & nothing

abbrev pub DenotesDatum : Bare → Datum → Type 0
DenotesDatum x v = IsNode keywords.Datum nodes.Datum (datum_fields v) x

abbrev pub vertical_datum_fields : VerticalDatum → Fields
vertical_datum_fields v =
    One DenotesText v.name
    & Maybe (DenotesValue keywords.Anchor) v.anchor
    & Each DenotesIdent v.ids
    & nothing

abbrev pub DenotesVerticalDatum : Bare → VerticalDatum → Type 0
DenotesVerticalDatum x v = IsNode keywords.VerticalDatum nodes.VerticalDatum (vertical_datum_fields v) x

-- the accuracy of an ensemble
abbrev pub accuracy_fields : Decimal → Fields
accuracy_fields v = One DenotesNumber v & nothing

abbrev pub DenotesAccuracy : Bare → Decimal → Type 0
DenotesAccuracy x v = IsNode keywords.EnsembleAccuracy nodes.EnsembleAccuracy (accuracy_fields v) x

abbrev pub geodetic_ensemble_fields : GeodeticEnsemble → Fields
geodetic_ensemble_fields v =
    One DenotesText v.name
    & AtLeastOne (DenotesNamed keywords.Member) v.members
    & One DenotesEllipsoid v.ellipsoid
    & One DenotesAccuracy v.accuracy
    & Each DenotesIdent v.ids
    & nothing

abbrev pub DenotesGeodeticEnsemble : Bare → GeodeticEnsemble → Type 0
DenotesGeodeticEnsemble x v = IsNode keywords.Ensemble nodes.GeodeticEnsemble (geodetic_ensemble_fields v) x

abbrev pub vertical_ensemble_fields : VerticalEnsemble → Fields
vertical_ensemble_fields v =
    One DenotesText v.name
    & AtLeastOne (DenotesNamed keywords.Member) v.members
    & One DenotesAccuracy v.accuracy
    & Each DenotesIdent v.ids
    & nothing

abbrev pub DenotesVerticalEnsemble : Bare → VerticalEnsemble → Type 0
DenotesVerticalEnsemble x v = IsNode keywords.Ensemble nodes.VerticalEnsemble (vertical_ensemble_fields v) x

abbrev pub DenotesGeodeticFrame : Bare → GeodeticFrame → Type 0
DenotesGeodeticFrame x (geodetic_frame.Datum v) = DenotesDatum x v
DenotesGeodeticFrame x (geodetic_frame.Ensemble v) = DenotesGeodeticEnsemble x v

abbrev pub DenotesVerticalFrame : Bare → VerticalFrame → Type 0
DenotesVerticalFrame x (vertical_frame.Datum v) = DenotesVerticalDatum x v
DenotesVerticalFrame x (vertical_frame.Ensemble v) = DenotesVerticalEnsemble x v

-- ---- coordinate systems

abbrev pub system_fields : CoordSystem → Fields
system_fields v =
    One (DenotesWord system_word) v.kind
    & One DenotesCount v.dimension
    & Each DenotesIdent v.ids
    & nothing

abbrev pub DenotesSystem : Bare → CoordSystem → Type 0
DenotesSystem x v = IsNode keywords.CoordinateSystem nodes.CoordinateSystem (system_fields v) x

abbrev pub meridian_fields : Meridian → Fields
meridian_fields v = One DenotesNumber v.longitude & One DenotesAngleUnit v.unit & nothing

abbrev pub DenotesMeridian : Bare → Meridian → Type 0
DenotesMeridian x v = IsNode keywords.Meridian nodes.Meridian (meridian_fields v) x

abbrev pub order_fields : Order → Fields
order_fields v = One DenotesCount v.position & nothing

abbrev pub DenotesOrder : Bare → Order → Type 0
DenotesOrder x v = IsNode keywords.Order nodes.Order (order_fields v) x

abbrev pub axis_fields : Axis → Fields
axis_fields v =
    One DenotesText v.name
    & One (DenotesWord direction_word) v.direction
    & Maybe DenotesMeridian v.meridian
    & Maybe DenotesOrder v.order
    & Maybe DenotesUnit v.unit
    & Each DenotesIdent v.ids
    & nothing

abbrev pub DenotesAxis : Bare → Axis → Type 0
DenotesAxis x v = IsNode keywords.Axis nodes.Axis (axis_fields v) x

-- ---- conversions

abbrev pub parameter_fields : Parameter → Fields
parameter_fields v =
    One DenotesText v.name
    & One DenotesNumber v.value
    & Maybe DenotesUnit v.unit
    & Each DenotesIdent v.ids
    & nothing

abbrev pub DenotesParameter : Bare → Parameter → Type 0
DenotesParameter x v = IsNode keywords.Parameter nodes.Parameter (parameter_fields v) x

abbrev pub conversion_fields : Conversion → Fields
conversion_fields v =
    One DenotesText v.name
    & One (DenotesNamed keywords.Method) v.method
    & Each DenotesParameter v.parameters
    & Each DenotesIdent v.ids
    & nothing

abbrev pub DenotesConversion : Bare → Conversion → Type 0
DenotesConversion x v = IsNode keywords.Conversion nodes.Conversion (conversion_fields v) x

-- ---- coordinate reference systems

abbrev pub geodetic_keyword : GeodeticKind → Keyword
geodetic_keyword geodetic_kind.Geodetic = keywords.GeodeticCrs
geodetic_keyword geodetic_kind.Geographic = keywords.GeographicCrs

abbrev pub base_keyword : GeodeticKind → Keyword
base_keyword geodetic_kind.Geodetic = keywords.BaseGeodeticCrs
base_keyword geodetic_kind.Geographic = keywords.BaseGeographicCrs

abbrev pub base_fields : BaseCrs → Fields
base_fields v =
    One DenotesText v.name
    & One DenotesGeodeticFrame v.datum
    & Maybe DenotesPrimeMeridian v.prime_meridian
    & Maybe DenotesAngleUnit v.unit
    & Each DenotesIdent v.ids
    & nothing

abbrev pub DenotesBase : Bare → BaseCrs → Type 0
DenotesBase x v = IsNode (base_keyword v.kind) nodes.BaseCrs (base_fields v) x

abbrev pub geodetic_fields : Geodetic → Fields
geodetic_fields v =
    One DenotesText v.name
    & One DenotesGeodeticFrame v.datum
    & Maybe DenotesPrimeMeridian v.prime_meridian
    & One DenotesSystem v.system
    & AtLeastOne DenotesAxis v.axes
    & Maybe DenotesUnit v.unit
    & Each DenotesUsage v.usages
    & Each DenotesIdent v.ids
    & Maybe (DenotesValue keywords.Remark) v.remark
    & nothing

abbrev pub DenotesGeodetic : Bare → Geodetic → Type 0
DenotesGeodetic x v = IsNode (geodetic_keyword v.kind) nodes.GeodeticCrs (geodetic_fields v) x

abbrev pub projected_fields : Projected → Fields
projected_fields v =
    One DenotesText v.name
    & One DenotesBase v.base
    & One DenotesConversion v.conversion
    & One DenotesSystem v.system
    & AtLeastOne DenotesAxis v.axes
    & Maybe DenotesUnit v.unit
    & Each DenotesUsage v.usages
    & Each DenotesIdent v.ids
    & Maybe (DenotesValue keywords.Remark) v.remark
    & nothing

abbrev pub DenotesProjected : Bare → Projected → Type 0
DenotesProjected x v = IsNode keywords.ProjectedCrs nodes.ProjectedCrs (projected_fields v) x

abbrev pub vertical_fields : verticals.Vertical → Fields
vertical_fields v =
    One DenotesText v.name
    & One DenotesVerticalFrame v.datum
    & One DenotesSystem v.system
    & AtLeastOne DenotesAxis v.axes
    & Maybe DenotesUnit v.unit
    & Each (DenotesNamed keywords.GeoidModel) v.geoid_models
    & Each DenotesUsage v.usages
    & Each DenotesIdent v.ids
    & Maybe (DenotesValue keywords.Remark) v.remark
    & nothing

abbrev pub DenotesVertical : Bare → verticals.Vertical → Type 0
DenotesVertical x v = IsNode keywords.VerticalCrs nodes.VerticalCrs (vertical_fields v) x

abbrev pub DenotesSingle : Bare → Single → Type 0
DenotesSingle x (single.Geodetic v) = DenotesGeodetic x v
DenotesSingle x (single.Projected v) = DenotesProjected x v
DenotesSingle x (single.Vertical v) = DenotesVertical x v

abbrev pub compound_fields : Compound → Fields
compound_fields v =
    One DenotesText v.name
    & One DenotesSingle v.first
    & One DenotesSingle v.second
    & Each DenotesUsage v.usages
    & Each DenotesIdent v.ids
    & Maybe (DenotesValue keywords.Remark) v.remark
    & nothing

abbrev pub DenotesCompound : Bare → Compound → Type 0
DenotesCompound x v = IsNode keywords.CompoundCrs nodes.CompoundCrs (compound_fields v) x

abbrev pub DenotesParts : Bare → CrsParts → Type 0
DenotesParts x (parts.Single v) = DenotesSingle x v
DenotesParts x (parts.Compound v) = DenotesCompound x v
