-- Trees that are alike denote the same values.
use Rattle.crs_part.specs.declared.identifiers.NumberOrText.TheVariants as code
use Rattle.crs_part.specs.declared.units.Unit.TheVariants as unit
use Rattle.crs_part.specs.declared.units.LengthUnit.TheVariants as length_unit
use Rattle.crs_part.specs.declared.units.AngleUnit.TheVariants as angle_unit
use Rattle.crs_part.specs.declared.datums.GeodeticFrame.TheVariants as geodetic_frame
use Rattle.crs_part.specs.declared.datums.VerticalFrame.TheVariants as vertical_frame
use Rattle.crs_part.specs.declared.crs.Single.TheVariants as single
use Rattle.crs_part.specs.declared.crs.CrsParts.TheVariants as parts
use Rattle.wkt_grammar.specs.declared.table.Keyword.{Keyword}
use Rattle.wkt_grammar.specs.declared.table.Keyword.TheVariants as keywords
use Rattle.wkt_grammar.specs.declared.table.Node.TheVariants as nodes
use Rattle.wkt_grammar.specs.Leaves.{DenotesText, DenotesNumber, DenotesCount, DenotesWord}
use Rattle.crs_part.specs.Words.{system_word, direction_word}
use Rattle.wkt_grammar.specs.Denotes.{DenotesValue, DenotesCode, DenotesIdent, DenotesNamed, DenotesUnitOf, DenotesUnit, DenotesLengthUnit, DenotesAngleUnit, DenotesBoundingBox, DenotesVerticalExtent, DenotesUsage, DenotesEllipsoid, DenotesPrimeMeridian, DenotesDatum, DenotesVerticalDatum, DenotesAccuracy, DenotesGeodeticEnsemble, DenotesVerticalEnsemble, DenotesGeodeticFrame, DenotesVerticalFrame, DenotesSystem, DenotesMeridian, DenotesOrder, DenotesAxis, DenotesParameter, DenotesConversion, DenotesBase, DenotesGeodetic, DenotesProjected, DenotesVertical, DenotesSingle, DenotesCompound, DenotesParts, geodetic_keyword, base_keyword}
use Rattle.wkt_grammar.specs.Denotes.{accuracy_fields, axis_fields, base_fields, bounding_box_fields, compound_fields, conversion_fields, datum_fields, ellipsoid_fields, geodetic_ensemble_fields, geodetic_fields, ident_fields, meridian_fields, named_fields, order_fields, parameter_fields, prime_meridian_fields, projected_fields, system_fields, unit_fields, usage_fields, value_fields, vertical_datum_fields, vertical_ensemble_fields, vertical_extent_fields, vertical_fields}
use Rattle.wkt_write.proofs.Fields.{Moves, node_moves, one, maybe, each, some, text_moves, number_moves, count_moves, word_moves}

pub value_moves : (keyword : Keyword) → Moves (DenotesValue keyword)
value_moves keyword x y v a d = node_moves keyword nodes.Value (value_fields v) x y (one DenotesText text_moves v, tt) a d

pub code_moves : Moves DenotesCode
code_moves x y (code.Number n) a d = number_moves x y n a d
code_moves x y (code.Text t) a d = text_moves x y t a d

pub ident_moves : Moves DenotesIdent
ident_moves x y v a d = node_moves keywords.Identifier nodes.Identifier (ident_fields v) x y (one DenotesText text_moves v.authority, (one DenotesCode code_moves v.code, (maybe DenotesCode code_moves v.version, (maybe (DenotesValue keywords.Citation) (value_moves keywords.Citation) v.citation, (maybe (DenotesValue keywords.Uri) (value_moves keywords.Uri) v.uri, tt))))) a d

pub named_moves : (keyword : Keyword) → Moves (DenotesNamed keyword)
named_moves keyword x y v a d = node_moves keyword nodes.Named (named_fields v) x y (one DenotesText text_moves v.name, (each DenotesIdent ident_moves v.ids, tt)) a d

pub unit_of_moves : (keyword : Keyword) → Moves (DenotesUnitOf keyword)
unit_of_moves keyword x y v a d = node_moves keyword nodes.Unit (unit_fields v) x y (one DenotesText text_moves v.name, (one DenotesNumber number_moves v.factor, (each DenotesIdent ident_moves v.ids, tt))) a d

pub unit_moves : Moves DenotesUnit
unit_moves x y (unit.Length v) a d = unit_of_moves keywords.LengthUnit x y v a d
unit_moves x y (unit.Angle v) a d = unit_of_moves keywords.AngleUnit x y v a d
unit_moves x y (unit.Scale v) a d = unit_of_moves keywords.ScaleUnit x y v a d
unit_moves x y (unit.Generic v) a d = unit_of_moves keywords.Unit x y v a d

pub length_unit_moves : Moves DenotesLengthUnit
length_unit_moves x y (length_unit.Length v) a d = unit_of_moves keywords.LengthUnit x y v a d
length_unit_moves x y (length_unit.Generic v) a d = unit_of_moves keywords.Unit x y v a d

pub angle_unit_moves : Moves DenotesAngleUnit
angle_unit_moves x y (angle_unit.Angle v) a d = unit_of_moves keywords.AngleUnit x y v a d
angle_unit_moves x y (angle_unit.Generic v) a d = unit_of_moves keywords.Unit x y v a d

pub bounding_box_moves : Moves DenotesBoundingBox
bounding_box_moves x y v a d = node_moves keywords.BoundingBox nodes.BoundingBox (bounding_box_fields v) x y (one DenotesNumber number_moves v.south, (one DenotesNumber number_moves v.west, (one DenotesNumber number_moves v.north, (one DenotesNumber number_moves v.east, tt)))) a d

pub vertical_extent_moves : Moves DenotesVerticalExtent
vertical_extent_moves x y v a d = node_moves keywords.VerticalExtent nodes.VerticalExtent (vertical_extent_fields v) x y (one DenotesNumber number_moves v.low, (one DenotesNumber number_moves v.high, (maybe DenotesLengthUnit length_unit_moves v.unit, tt))) a d

pub usage_moves : Moves DenotesUsage
usage_moves x y v a d = node_moves keywords.Usage nodes.Usage (usage_fields v) x y (one (DenotesValue keywords.Scope) (value_moves keywords.Scope) v.scope, (maybe (DenotesValue keywords.Area) (value_moves keywords.Area) v.area, (maybe DenotesBoundingBox bounding_box_moves v.bounding_box, (maybe DenotesVerticalExtent vertical_extent_moves v.vertical_extent, tt)))) a d

pub ellipsoid_moves : Moves DenotesEllipsoid
ellipsoid_moves x y v a d = node_moves keywords.Ellipsoid nodes.Ellipsoid (ellipsoid_fields v) x y (one DenotesText text_moves v.name, (one DenotesNumber number_moves v.radius, (one DenotesNumber number_moves v.flattening, (maybe DenotesLengthUnit length_unit_moves v.unit, (each DenotesIdent ident_moves v.ids, tt))))) a d

pub prime_meridian_moves : Moves DenotesPrimeMeridian
prime_meridian_moves x y v a d = node_moves keywords.PrimeMeridian nodes.PrimeMeridian (prime_meridian_fields v) x y (one DenotesText text_moves v.name, (one DenotesNumber number_moves v.longitude, (maybe DenotesAngleUnit angle_unit_moves v.unit, (each DenotesIdent ident_moves v.ids, tt)))) a d

pub datum_moves : Moves DenotesDatum
datum_moves x y v a d = node_moves keywords.Datum nodes.Datum (datum_fields v) x y (one DenotesText text_moves v.name, (one DenotesEllipsoid ellipsoid_moves v.ellipsoid, (maybe (DenotesValue keywords.Anchor) (value_moves keywords.Anchor) v.anchor, (each DenotesIdent ident_moves v.ids, tt)))) a d

pub vertical_datum_moves : Moves DenotesVerticalDatum
vertical_datum_moves x y v a d = node_moves keywords.VerticalDatum nodes.VerticalDatum (vertical_datum_fields v) x y (one DenotesText text_moves v.name, (maybe (DenotesValue keywords.Anchor) (value_moves keywords.Anchor) v.anchor, (each DenotesIdent ident_moves v.ids, tt))) a d

pub accuracy_moves : Moves DenotesAccuracy
accuracy_moves x y v a d = node_moves keywords.EnsembleAccuracy nodes.EnsembleAccuracy (accuracy_fields v) x y (one DenotesNumber number_moves v, tt) a d

pub geodetic_ensemble_moves : Moves DenotesGeodeticEnsemble
geodetic_ensemble_moves x y v a d = node_moves keywords.Ensemble nodes.GeodeticEnsemble (geodetic_ensemble_fields v) x y (one DenotesText text_moves v.name, (some (DenotesNamed keywords.Member) (named_moves keywords.Member) v.members, (one DenotesEllipsoid ellipsoid_moves v.ellipsoid, (one DenotesAccuracy accuracy_moves v.accuracy, (each DenotesIdent ident_moves v.ids, tt))))) a d

pub vertical_ensemble_moves : Moves DenotesVerticalEnsemble
vertical_ensemble_moves x y v a d = node_moves keywords.Ensemble nodes.VerticalEnsemble (vertical_ensemble_fields v) x y (one DenotesText text_moves v.name, (some (DenotesNamed keywords.Member) (named_moves keywords.Member) v.members, (one DenotesAccuracy accuracy_moves v.accuracy, (each DenotesIdent ident_moves v.ids, tt)))) a d

pub geodetic_frame_moves : Moves DenotesGeodeticFrame
geodetic_frame_moves x y (geodetic_frame.Datum v) a d = datum_moves x y v a d
geodetic_frame_moves x y (geodetic_frame.Ensemble v) a d = geodetic_ensemble_moves x y v a d

pub vertical_frame_moves : Moves DenotesVerticalFrame
vertical_frame_moves x y (vertical_frame.Datum v) a d = vertical_datum_moves x y v a d
vertical_frame_moves x y (vertical_frame.Ensemble v) a d = vertical_ensemble_moves x y v a d

pub system_moves : Moves DenotesSystem
system_moves x y v a d = node_moves keywords.CoordinateSystem nodes.CoordinateSystem (system_fields v) x y (one (DenotesWord system_word) (word_moves system_word) v.kind, (one DenotesCount count_moves v.dimension, (each DenotesIdent ident_moves v.ids, tt))) a d

pub meridian_moves : Moves DenotesMeridian
meridian_moves x y v a d = node_moves keywords.Meridian nodes.Meridian (meridian_fields v) x y (one DenotesNumber number_moves v.longitude, (one DenotesAngleUnit angle_unit_moves v.unit, tt)) a d

pub order_moves : Moves DenotesOrder
order_moves x y v a d = node_moves keywords.Order nodes.Order (order_fields v) x y (one DenotesCount count_moves v.position, tt) a d

pub axis_moves : Moves DenotesAxis
axis_moves x y v a d = node_moves keywords.Axis nodes.Axis (axis_fields v) x y (one DenotesText text_moves v.name, (one (DenotesWord direction_word) (word_moves direction_word) v.direction, (maybe DenotesMeridian meridian_moves v.meridian, (maybe DenotesOrder order_moves v.order, (maybe DenotesUnit unit_moves v.unit, (each DenotesIdent ident_moves v.ids, tt)))))) a d

pub parameter_moves : Moves DenotesParameter
parameter_moves x y v a d = node_moves keywords.Parameter nodes.Parameter (parameter_fields v) x y (one DenotesText text_moves v.name, (one DenotesNumber number_moves v.value, (maybe DenotesUnit unit_moves v.unit, (each DenotesIdent ident_moves v.ids, tt)))) a d

pub conversion_moves : Moves DenotesConversion
conversion_moves x y v a d = node_moves keywords.Conversion nodes.Conversion (conversion_fields v) x y (one DenotesText text_moves v.name, (one (DenotesNamed keywords.Method) (named_moves keywords.Method) v.method, (each DenotesParameter parameter_moves v.parameters, (each DenotesIdent ident_moves v.ids, tt)))) a d

pub base_moves : Moves DenotesBase
base_moves x y v a d = node_moves (base_keyword v.kind) nodes.BaseCrs (base_fields v) x y (one DenotesText text_moves v.name, (one DenotesGeodeticFrame geodetic_frame_moves v.datum, (maybe DenotesPrimeMeridian prime_meridian_moves v.prime_meridian, (maybe DenotesAngleUnit angle_unit_moves v.unit, (each DenotesIdent ident_moves v.ids, tt))))) a d

pub geodetic_moves : Moves DenotesGeodetic
geodetic_moves x y v a d = node_moves (geodetic_keyword v.kind) nodes.GeodeticCrs (geodetic_fields v) x y (one DenotesText text_moves v.name, (one DenotesGeodeticFrame geodetic_frame_moves v.datum, (maybe DenotesPrimeMeridian prime_meridian_moves v.prime_meridian, (one DenotesSystem system_moves v.system, (some DenotesAxis axis_moves v.axes, (maybe DenotesUnit unit_moves v.unit, (each DenotesUsage usage_moves v.usages, (each DenotesIdent ident_moves v.ids, (maybe (DenotesValue keywords.Remark) (value_moves keywords.Remark) v.remark, tt))))))))) a d

pub projected_moves : Moves DenotesProjected
projected_moves x y v a d = node_moves keywords.ProjectedCrs nodes.ProjectedCrs (projected_fields v) x y (one DenotesText text_moves v.name, (one DenotesBase base_moves v.base, (one DenotesConversion conversion_moves v.conversion, (one DenotesSystem system_moves v.system, (some DenotesAxis axis_moves v.axes, (maybe DenotesUnit unit_moves v.unit, (each DenotesUsage usage_moves v.usages, (each DenotesIdent ident_moves v.ids, (maybe (DenotesValue keywords.Remark) (value_moves keywords.Remark) v.remark, tt))))))))) a d

pub vertical_moves : Moves DenotesVertical
vertical_moves x y v a d = node_moves keywords.VerticalCrs nodes.VerticalCrs (vertical_fields v) x y (one DenotesText text_moves v.name, (one DenotesVerticalFrame vertical_frame_moves v.datum, (one DenotesSystem system_moves v.system, (some DenotesAxis axis_moves v.axes, (maybe DenotesUnit unit_moves v.unit, (each (DenotesNamed keywords.GeoidModel) (named_moves keywords.GeoidModel) v.geoid_models, (each DenotesUsage usage_moves v.usages, (each DenotesIdent ident_moves v.ids, (maybe (DenotesValue keywords.Remark) (value_moves keywords.Remark) v.remark, tt))))))))) a d

pub single_moves : Moves DenotesSingle
single_moves x y (single.Geodetic v) a d = geodetic_moves x y v a d
single_moves x y (single.Projected v) a d = projected_moves x y v a d
single_moves x y (single.Vertical v) a d = vertical_moves x y v a d

pub compound_moves : Moves DenotesCompound
compound_moves x y v a d = node_moves keywords.CompoundCrs nodes.CompoundCrs (compound_fields v) x y (one DenotesText text_moves v.name, (one DenotesSingle single_moves v.first, (one DenotesSingle single_moves v.second, (each DenotesUsage usage_moves v.usages, (each DenotesIdent ident_moves v.ids, (maybe (DenotesValue keywords.Remark) (value_moves keywords.Remark) v.remark, tt)))))) a d

pub parts_moves : Moves DenotesParts
parts_moves x y (parts.Single v) a d = single_moves x y v a d
parts_moves x y (parts.Compound v) a d = compound_moves x y v a d
