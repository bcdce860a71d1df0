-- The laws of each node, from those of its slots: one line for each slot, in the order of its row.
use Rattle.std.proofs.Common.{◌≡◌, ℕ, ◌<◌, ◌^◌, Some, refl, sym, ap, ◌∙◌}
use Rattle.std.proofs.Props.{props}
use mathlib.Core.HLevel.{is_prop→PathP}
use Rattle.crs_part.specs.declared.units.Unit as units
use Rattle.crs_part.specs.declared.units.Unit.TheVariants as unit
use Rattle.crs_part.specs.declared.units.LengthUnit.{LengthUnit}
use Rattle.crs_part.specs.declared.units.LengthUnit.TheVariants as length_unit
use Rattle.crs_part.specs.declared.units.AngleUnit.{AngleUnit}
use Rattle.crs_part.specs.declared.units.AngleUnit.TheVariants as angle_unit
use Rattle.crs_part.specs.declared.datums.GeodeticFrame.{GeodeticFrame}
use Rattle.crs_part.specs.declared.datums.GeodeticFrame.TheVariants as geodetic_frame
use Rattle.crs_part.specs.declared.datums.VerticalFrame.{VerticalFrame}
use Rattle.crs_part.specs.declared.datums.VerticalFrame.TheVariants as vertical_frame
use Rattle.crs_part.specs.declared.systems.CoordSystem.{CoordSystem}
use Rattle.crs_part.specs.declared.systems.Order.{Order}
use Rattle.crs_part.specs.declared.crs.GeodeticKind.{GeodeticKind}
use Rattle.crs_part.specs.declared.crs.GeodeticKind.TheVariants as geodetic_kind
use Rattle.crs_part.specs.declared.crs.Single.{Single}
use Rattle.crs_part.specs.declared.crs.Single.TheVariants as single
use Rattle.crs_part.specs.declared.crs.Compound.{Compound}
use Rattle.crs_part.specs.declared.crs.CrsParts.{CrsParts}
use Rattle.crs_part.specs.declared.crs.CrsParts.TheVariants as parts
use Rattle.wkt_grammar.specs.declared.table.Keyword.{Keyword}
use Rattle.wkt_grammar.specs.declared.table.Keyword.TheVariants as keywords
use Rattle.wkt_grammar.specs.declared.table.Node.TheVariants as nodes
use Rattle.wkt_grammar.specs.declared.table.SlotName.TheVariants as slots
use Rattle.wkt_grammar.specs.declared.table.Takes.{Takes}
use Rattle.wkt_grammar.specs.declared.table.Takes.TheVariants as kinds
use Rattle.wkt_grammar.specs.Rows.{enters}
use Rattle.wkt_grammar.specs.declared.table.Node.{Node}
use Rattle.wkt_grammar.specs.Bare.{Bare}
use Rattle.wkt_grammar.specs.SecondEdition.{Fitting}
use Rattle.wkt_grammar.specs.Runs.{Fields, IsNode}
use Rattle.wkt_grammar.specs.Denotes.{DenotesValue, DenotesIdent, DenotesNamed, DenotesUnitOf, DenotesUnit, DenotesLengthUnit, DenotesAngleUnit, DenotesBoundingBox, DenotesVerticalExtent, DenotesUsage, DenotesEllipsoid, DenotesPrimeMeridian, DenotesDatum, DenotesVerticalDatum, DenotesAccuracy, DenotesGeodeticEnsemble, DenotesVerticalEnsemble, DenotesGeodeticFrame, DenotesVerticalFrame, DenotesSystem, DenotesMeridian, DenotesOrder, DenotesAxis, DenotesParameter, DenotesConversion, geodetic_keyword, base_keyword, DenotesBase, DenotesGeodetic, DenotesProjected, DenotesVertical, DenotesSingle, DenotesCompound, DenotesParts}
use Rattle.wkt_grammar.specs.Trees.{value_tree, ident_tree, named_tree, unit_of_tree, unit_tree, length_unit_tree, angle_unit_tree, bounding_box_tree, vertical_extent_tree, usage_tree, ellipsoid_tree, prime_meridian_tree, datum_tree, vertical_datum_tree, accuracy_tree, geodetic_ensemble_tree, vertical_ensemble_tree, geodetic_frame_tree, vertical_frame_tree, system_tree, meridian_tree, order_tree, axis_tree, parameter_tree, conversion_tree, base_tree, geodetic_tree, projected_tree, vertical_tree, single_tree, compound_tree, parts_tree}
use Rattle.wkt_grammar.proofs.NodeRows.{Law, done, one, maybe, each, some, ◌>>◌, node_law, same_keyword}
use Rattle.wkt_grammar.proofs.Leaves.{text_law, number_law, code_law, kind_law, direction_law, count_law, Small}

-- ---- values, identifiers

pub value_law : (t : Takes) (K : Keyword) → enters t K ≡ Some nodes.Value → Law t (DenotesValue K) (value_tree K)
value_law t K e =
    node_law t (λ v. K) nodes.Value (λ v. (v, tt)) (λ v. e) (λ v w k h. λ i. (h i).0)
    (one slots.Value text_law >> done)

pub citation_law : Law (kinds.Node keywords.Citation nodes.Value) (DenotesValue keywords.Citation) (value_tree keywords.Citation)
citation_law = value_law (kinds.Node keywords.Citation nodes.Value) keywords.Citation refl

pub uri_law : Law (kinds.Node keywords.Uri nodes.Value) (DenotesValue keywords.Uri) (value_tree keywords.Uri)
uri_law = value_law (kinds.Node keywords.Uri nodes.Value) keywords.Uri refl

pub ident_law : Law (kinds.Node keywords.Identifier nodes.Identifier) DenotesIdent ident_tree
ident_law =
    node_law (kinds.Node keywords.Identifier nodes.Identifier) (λ v. keywords.Identifier) nodes.Identifier (λ v. (v.authority, (v.code, (v.version, (v.citation, (v.uri, tt)))))) (λ v. refl)
    (λ v w k h. λ i. record { authority = (h i).0; code = (h i).1.0; version = (h i).1.1.0; citation = (h i).1.1.1.0; uri = (h i).1.1.1.1.0 })
    (one slots.Authority text_law >> one slots.Code code_law >> maybe slots.Version code_law >> maybe slots.Citation citation_law >> maybe slots.Uri uri_law >> done)

pub scope_law : Law (kinds.Node keywords.Scope nodes.Value) (DenotesValue keywords.Scope) (value_tree keywords.Scope)
scope_law = value_law (kinds.Node keywords.Scope nodes.Value) keywords.Scope refl

pub area_law : Law (kinds.Node keywords.Area nodes.Value) (DenotesValue keywords.Area) (value_tree keywords.Area)
area_law = value_law (kinds.Node keywords.Area nodes.Value) keywords.Area refl

pub anchor_law : Law (kinds.Node keywords.Anchor nodes.Value) (DenotesValue keywords.Anchor) (value_tree keywords.Anchor)
anchor_law = value_law (kinds.Node keywords.Anchor nodes.Value) keywords.Anchor refl

pub remark_law : Law (kinds.Node keywords.Remark nodes.Value) (DenotesValue keywords.Remark) (value_tree keywords.Remark)
remark_law = value_law (kinds.Node keywords.Remark nodes.Value) keywords.Remark refl

named_law : (t : Takes) (K : Keyword) → enters t K ≡ Some nodes.Named → Law t (DenotesNamed K) (named_tree K)
named_law t K e =
    node_law t (λ v. K) nodes.Named (λ v. (v.name, (v.ids, tt))) (λ v. e) (λ v w k h. λ i. record { name = (h i).0; ids = (h i).1.0 })
    (one slots.Name text_law >> each slots.Id ident_law >> done)

pub member_law : Law (kinds.Node keywords.Member nodes.Named) (DenotesNamed keywords.Member) (named_tree keywords.Member)
member_law = named_law (kinds.Node keywords.Member nodes.Named) keywords.Member refl

pub method_law : Law (kinds.Node keywords.Method nodes.Named) (DenotesNamed keywords.Method) (named_tree keywords.Method)
method_law = named_law (kinds.Node keywords.Method nodes.Named) keywords.Method refl

pub geoid_model_law : Law (kinds.Node keywords.GeoidModel nodes.Named) (DenotesNamed keywords.GeoidModel) (named_tree keywords.GeoidModel)
geoid_model_law = named_law (kinds.Node keywords.GeoidModel nodes.Named) keywords.GeoidModel refl

-- ---- units

unit_of_law : (t : Takes) (K : Keyword) → enters t K ≡ Some nodes.Unit → Law t (DenotesUnitOf K) (unit_of_tree K)
unit_of_law t K e =
    node_law t (λ v. K) nodes.Unit (λ v. (v.name, (v.factor, (v.ids, tt)))) (λ v. e) (λ v w k h. λ i. record { name = (h i).0; factor = (h i).1.0; ids = (h i).1.1.0 })
    (one slots.Name text_law >> one slots.Factor number_law >> each slots.Id ident_law >> done)

abbrev Units : Takes → Keyword → Type 0
Units t K = Law t (DenotesUnitOf K) (unit_of_tree K)

any_length : Units kinds.AnyUnit keywords.LengthUnit
any_length = unit_of_law kinds.AnyUnit keywords.LengthUnit refl

any_angle : Units kinds.AnyUnit keywords.AngleUnit
any_angle = unit_of_law kinds.AnyUnit keywords.AngleUnit refl

any_scale : Units kinds.AnyUnit keywords.ScaleUnit
any_scale = unit_of_law kinds.AnyUnit keywords.ScaleUnit refl

any_generic : Units kinds.AnyUnit keywords.Unit
any_generic = unit_of_law kinds.AnyUnit keywords.Unit refl

length_length : Units kinds.LengthUnit keywords.LengthUnit
length_length = unit_of_law kinds.LengthUnit keywords.LengthUnit refl

length_generic : Units kinds.LengthUnit keywords.Unit
length_generic = unit_of_law kinds.LengthUnit keywords.Unit refl

angle_angle : Units kinds.AngleUnit keywords.AngleUnit
angle_angle = unit_of_law kinds.AngleUnit keywords.AngleUnit refl

angle_generic : Units kinds.AngleUnit keywords.Unit
angle_generic = unit_of_law kinds.AngleUnit keywords.Unit refl

-- a tree is a node with at most one keyword
one_keyword : {n m : Node} {F G : Fields} (K J : Keyword) (x : Bare) → IsNode K n F x → IsNode J m G x → K ≡ J
one_keyword K J x d e = same_keyword d.keyword e.keyword d.items e.items K J (sym d.is ∙ e.is) d.meaning e.meaning

unit_fits : (x : Bare) (v : units.Unit) → DenotesUnit x v → Fitting kinds.AnyUnit x
unit_fits x (unit.Length v) d = any_length.fits x v d
unit_fits x (unit.Angle v) d = any_angle.fits x v d
unit_fits x (unit.Scale v) d = any_scale.fits x v d
unit_fits x (unit.Generic v) d = any_generic.fits x v d

unit_once : (x : Bare) (v w : units.Unit) → DenotesUnit x v → DenotesUnit x w → v ≡ w
unit_once x (unit.Length v) (unit.Length w) d e = ap unit.Length (any_length.once x v w d e)
unit_once x (unit.Angle v) (unit.Angle w) d e = ap unit.Angle (any_angle.once x v w d e)
unit_once x (unit.Scale v) (unit.Scale w) d e = ap unit.Scale (any_scale.once x v w d e)
unit_once x (unit.Generic v) (unit.Generic w) d e = ap unit.Generic (any_generic.once x v w d e)
unit_once x (unit.Length v) (unit.Angle w) d e = let k = one_keyword keywords.LengthUnit keywords.AngleUnit x d e in absurd cc
unit_once x (unit.Length v) (unit.Scale w) d e = let k = one_keyword keywords.LengthUnit keywords.ScaleUnit x d e in absurd cc
unit_once x (unit.Length v) (unit.Generic w) d e = let k = one_keyword keywords.LengthUnit keywords.Unit x d e in absurd cc
unit_once x (unit.Angle v) (unit.Length w) d e = let k = one_keyword keywords.AngleUnit keywords.LengthUnit x d e in absurd cc
unit_once x (unit.Angle v) (unit.Scale w) d e = let k = one_keyword keywords.AngleUnit keywords.ScaleUnit x d e in absurd cc
unit_once x (unit.Angle v) (unit.Generic w) d e = let k = one_keyword keywords.AngleUnit keywords.Unit x d e in absurd cc
unit_once x (unit.Scale v) (unit.Length w) d e = let k = one_keyword keywords.ScaleUnit keywords.LengthUnit x d e in absurd cc
unit_once x (unit.Scale v) (unit.Angle w) d e = let k = one_keyword keywords.ScaleUnit keywords.AngleUnit x d e in absurd cc
unit_once x (unit.Scale v) (unit.Generic w) d e = let k = one_keyword keywords.ScaleUnit keywords.Unit x d e in absurd cc
unit_once x (unit.Generic v) (unit.Length w) d e = let k = one_keyword keywords.Unit keywords.LengthUnit x d e in absurd cc
unit_once x (unit.Generic v) (unit.Angle w) d e = let k = one_keyword keywords.Unit keywords.AngleUnit x d e in absurd cc
unit_once x (unit.Generic v) (unit.Scale w) d e = let k = one_keyword keywords.Unit keywords.ScaleUnit x d e in absurd cc

unit_spelled : (v : units.Unit) → DenotesUnit (unit_tree v) v
unit_spelled (unit.Length v) = any_length.spelled v
unit_spelled (unit.Angle v) = any_angle.spelled v
unit_spelled (unit.Scale v) = any_scale.spelled v
unit_spelled (unit.Generic v) = any_generic.spelled v

pub unit_law : Law kinds.AnyUnit DenotesUnit unit_tree
unit_law = record { fits = unit_fits; once = unit_once; spelled = unit_spelled }

length_unit_fits : (x : Bare) (v : LengthUnit) → DenotesLengthUnit x v → Fitting kinds.LengthUnit x
length_unit_fits x (length_unit.Length v) d = length_length.fits x v d
length_unit_fits x (length_unit.Generic v) d = length_generic.fits x v d

length_unit_once : (x : Bare) (v w : LengthUnit) → DenotesLengthUnit x v → DenotesLengthUnit x w → v ≡ w
length_unit_once x (length_unit.Length v) (length_unit.Length w) d e = ap length_unit.Length (length_length.once x v w d e)
length_unit_once x (length_unit.Generic v) (length_unit.Generic w) d e = ap length_unit.Generic (length_generic.once x v w d e)
length_unit_once x (length_unit.Length v) (length_unit.Generic w) d e = let k = one_keyword keywords.LengthUnit keywords.Unit x d e in absurd cc
length_unit_once x (length_unit.Generic v) (length_unit.Length w) d e = let k = one_keyword keywords.Unit keywords.LengthUnit x d e in absurd cc

length_unit_spelled : (v : LengthUnit) → DenotesLengthUnit (length_unit_tree v) v
length_unit_spelled (length_unit.Length v) = length_length.spelled v
length_unit_spelled (length_unit.Generic v) = length_generic.spelled v

pub length_unit_law : Law kinds.LengthUnit DenotesLengthUnit length_unit_tree
length_unit_law = record { fits = length_unit_fits; once = length_unit_once; spelled = length_unit_spelled }

angle_unit_fits : (x : Bare) (v : AngleUnit) → DenotesAngleUnit x v → Fitting kinds.AngleUnit x
angle_unit_fits x (angle_unit.Angle v) d = angle_angle.fits x v d
angle_unit_fits x (angle_unit.Generic v) d = angle_generic.fits x v d

angle_unit_once : (x : Bare) (v w : AngleUnit) → DenotesAngleUnit x v → DenotesAngleUnit x w → v ≡ w
angle_unit_once x (angle_unit.Angle v) (angle_unit.Angle w) d e = ap angle_unit.Angle (angle_angle.once x v w d e)
angle_unit_once x (angle_unit.Generic v) (angle_unit.Generic w) d e = ap angle_unit.Generic (angle_generic.once x v w d e)
angle_unit_once x (angle_unit.Angle v) (angle_unit.Generic w) d e = let k = one_keyword keywords.AngleUnit keywords.Unit x d e in absurd cc
angle_unit_once x (angle_unit.Generic v) (angle_unit.Angle w) d e = let k = one_keyword keywords.Unit keywords.AngleUnit x d e in absurd cc

angle_unit_spelled : (v : AngleUnit) → DenotesAngleUnit (angle_unit_tree v) v
angle_unit_spelled (angle_unit.Angle v) = angle_angle.spelled v
angle_unit_spelled (angle_unit.Generic v) = angle_generic.spelled v

pub angle_unit_law : Law kinds.AngleUnit DenotesAngleUnit angle_unit_tree
angle_unit_law = record { fits = angle_unit_fits; once = angle_unit_once; spelled = angle_unit_spelled }

-- ---- usages

pub bounding_box_law : Law (kinds.Node keywords.BoundingBox nodes.BoundingBox) DenotesBoundingBox bounding_box_tree
bounding_box_law =
    node_law (kinds.Node keywords.BoundingBox nodes.BoundingBox) (λ v. keywords.BoundingBox) nodes.BoundingBox (λ v. (v.south, (v.west, (v.north, (v.east, tt))))) (λ v. refl) (λ v w k h. λ i. record { south = (h i).0; west = (h i).1.0; north = (h i).1.1.0; east = (h i).1.1.1.0 })
    (one slots.South number_law >> one slots.West number_law >> one slots.North number_law >> one slots.East number_law >> done)

pub vertical_extent_law : Law (kinds.Node keywords.VerticalExtent nodes.VerticalExtent) DenotesVerticalExtent vertical_extent_tree
vertical_extent_law =
    node_law (kinds.Node keywords.VerticalExtent nodes.VerticalExtent) (λ v. keywords.VerticalExtent) nodes.VerticalExtent (λ v. (v.low, (v.high, (v.unit, tt)))) (λ v. refl) (λ v w k h. λ i. record { low = (h i).0; high = (h i).1.0; unit = (h i).1.1.0 })
    (one slots.Low number_law >> one slots.High number_law >> maybe slots.Unit length_unit_law >> done)

pub usage_law : Law (kinds.Node keywords.Usage nodes.Usage) DenotesUsage usage_tree
usage_law =
    node_law (kinds.Node keywords.Usage nodes.Usage) (λ v. keywords.Usage) nodes.Usage (λ v. (v.scope, (v.area, (v.bounding_box, (v.vertical_extent, tt))))) (λ v. refl) (λ v w k h. λ i. record { scope = (h i).0; area = (h i).1.0; bounding_box = (h i).1.1.0; vertical_extent = (h i).1.1.1.0 })
    (one slots.Scope scope_law >> maybe slots.Area area_law >> maybe slots.BoundingBox bounding_box_law >> maybe slots.VerticalExtent vertical_extent_law >> done)

-- ---- datums

pub ellipsoid_law : Law (kinds.Node keywords.Ellipsoid nodes.Ellipsoid) DenotesEllipsoid ellipsoid_tree
ellipsoid_law =
    node_law (kinds.Node keywords.Ellipsoid nodes.Ellipsoid) (λ v. keywords.Ellipsoid) nodes.Ellipsoid (λ v. (v.name, (v.radius, (v.flattening, (v.unit, (v.ids, tt)))))) (λ v. refl) (λ v w k h. λ i. record { name = (h i).0; radius = (h i).1.0; flattening = (h i).1.1.0; unit = (h i).1.1.1.0; ids = (h i).1.1.1.1.0 })
    (one slots.Name text_law >> one slots.Radius number_law >> one slots.Flattening number_law >> maybe slots.Unit length_unit_law >> each slots.Id ident_law >> done)

pub prime_meridian_law : Law (kinds.Node keywords.PrimeMeridian nodes.PrimeMeridian) DenotesPrimeMeridian prime_meridian_tree
prime_meridian_law =
    node_law (kinds.Node keywords.PrimeMeridian nodes.PrimeMeridian) (λ v. keywords.PrimeMeridian) nodes.PrimeMeridian (λ v. (v.name, (v.longitude, (v.unit, (v.ids, tt))))) (λ v. refl) (λ v w k h. λ i. record { name = (h i).0; longitude = (h i).1.0; unit = (h i).1.1.0; ids = (h i).1.1.1.0 })
    (one slots.Name text_law >> one slots.Longitude number_law >> maybe slots.Unit angle_unit_law >> each slots.Id ident_law >> done)

pub accuracy_law : Law (kinds.Node keywords.EnsembleAccuracy nodes.EnsembleAccuracy) DenotesAccuracy accuracy_tree
accuracy_law =
    node_law (kinds.Node keywords.EnsembleAccuracy nodes.EnsembleAccuracy) (λ v. keywords.EnsembleAccuracy) nodes.EnsembleAccuracy (λ v. (v, tt)) (λ v. refl) (λ v w k h. λ i. (h i).0)
    (one slots.Value number_law >> done)

pub datum_law : Law kinds.GeodeticDatum DenotesDatum datum_tree
datum_law =
    node_law kinds.GeodeticDatum (λ v. keywords.Datum) nodes.Datum (λ v. (v.name, (v.ellipsoid, (v.anchor, (v.ids, tt))))) (λ v. refl) (λ v w k h. λ i. record { name = (h i).0; ellipsoid = (h i).1.0; anchor = (h i).1.1.0; ids = (h i).1.1.1.0 })
    (one slots.Name text_law >> one slots.Ellipsoid ellipsoid_law >> maybe slots.Anchor anchor_law >> each slots.Id ident_law >> done)

pub geodetic_ensemble_law : Law kinds.GeodeticDatum DenotesGeodeticEnsemble geodetic_ensemble_tree
geodetic_ensemble_law =
    node_law kinds.GeodeticDatum (λ v. keywords.Ensemble) nodes.GeodeticEnsemble (λ v. (v.name, (v.members, (v.ellipsoid, (v.accuracy, (v.ids, tt)))))) (λ v. refl) (λ v w k h. λ i. record { name = (h i).0; members = (h i).1.0; ellipsoid = (h i).1.1.0; accuracy = (h i).1.1.1.0; ids = (h i).1.1.1.1.0 })
    (one slots.Name text_law >> some slots.Member member_law >> one slots.Ellipsoid ellipsoid_law >> one slots.Accuracy accuracy_law >> each slots.Id ident_law >> done)

pub vertical_datum_law : Law kinds.VerticalDatum DenotesVerticalDatum vertical_datum_tree
vertical_datum_law =
    node_law kinds.VerticalDatum (λ v. keywords.VerticalDatum) nodes.VerticalDatum (λ v. (v.name, (v.anchor, (v.ids, tt)))) (λ v. refl) (λ v w k h. λ i. record { name = (h i).0; anchor = (h i).1.0; ids = (h i).1.1.0 })
    (one slots.Name text_law >> maybe slots.Anchor anchor_law >> each slots.Id ident_law >> done)

pub vertical_ensemble_law : Law kinds.VerticalDatum DenotesVerticalEnsemble vertical_ensemble_tree
vertical_ensemble_law =
    node_law kinds.VerticalDatum (λ v. keywords.Ensemble) nodes.VerticalEnsemble (λ v. (v.name, (v.members, (v.accuracy, (v.ids, tt))))) (λ v. refl) (λ v w k h. λ i. record { name = (h i).0; members = (h i).1.0; accuracy = (h i).1.1.0; ids = (h i).1.1.1.0 })
    (one slots.Name text_law >> some slots.Member member_law >> one slots.Accuracy accuracy_law >> each slots.Id ident_law >> done)

geodetic_frame_fits : (x : Bare) (v : GeodeticFrame) → DenotesGeodeticFrame x v → Fitting kinds.GeodeticDatum x
geodetic_frame_fits x (geodetic_frame.Datum v) d = datum_law.fits x v d
geodetic_frame_fits x (geodetic_frame.Ensemble v) d = geodetic_ensemble_law.fits x v d

geodetic_frame_once : (x : Bare) (v w : GeodeticFrame) → DenotesGeodeticFrame x v → DenotesGeodeticFrame x w → v ≡ w
geodetic_frame_once x (geodetic_frame.Datum v) (geodetic_frame.Datum w) d e = ap geodetic_frame.Datum (datum_law.once x v w d e)
geodetic_frame_once x (geodetic_frame.Ensemble v) (geodetic_frame.Ensemble w) d e = ap geodetic_frame.Ensemble (geodetic_ensemble_law.once x v w d e)
geodetic_frame_once x (geodetic_frame.Datum v) (geodetic_frame.Ensemble w) d e = let k = one_keyword keywords.Datum keywords.Ensemble x d e in absurd cc
geodetic_frame_once x (geodetic_frame.Ensemble v) (geodetic_frame.Datum w) d e = let k = one_keyword keywords.Ensemble keywords.Datum x d e in absurd cc

geodetic_frame_spelled : (v : GeodeticFrame) → DenotesGeodeticFrame (geodetic_frame_tree v) v
geodetic_frame_spelled (geodetic_frame.Datum v) = datum_law.spelled v
geodetic_frame_spelled (geodetic_frame.Ensemble v) = geodetic_ensemble_law.spelled v

pub geodetic_frame_law : Law kinds.GeodeticDatum DenotesGeodeticFrame geodetic_frame_tree
geodetic_frame_law = record { fits = geodetic_frame_fits; once = geodetic_frame_once; spelled = geodetic_frame_spelled }

vertical_frame_fits : (x : Bare) (v : VerticalFrame) → DenotesVerticalFrame x v → Fitting kinds.VerticalDatum x
vertical_frame_fits x (vertical_frame.Datum v) d = vertical_datum_law.fits x v d
vertical_frame_fits x (vertical_frame.Ensemble v) d = vertical_ensemble_law.fits x v d

vertical_frame_once : (x : Bare) (v w : VerticalFrame) → DenotesVerticalFrame x v → DenotesVerticalFrame x w → v ≡ w
vertical_frame_once x (vertical_frame.Datum v) (vertical_frame.Datum w) d e = ap vertical_frame.Datum (vertical_datum_law.once x v w d e)
vertical_frame_once x (vertical_frame.Ensemble v) (vertical_frame.Ensemble w) d e = ap vertical_frame.Ensemble (vertical_ensemble_law.once x v w d e)
vertical_frame_once x (vertical_frame.Datum v) (vertical_frame.Ensemble w) d e = let k = one_keyword keywords.VerticalDatum keywords.Ensemble x d e in absurd cc
vertical_frame_once x (vertical_frame.Ensemble v) (vertical_frame.Datum w) d e = let k = one_keyword keywords.Ensemble keywords.VerticalDatum x d e in absurd cc

vertical_frame_spelled : (v : VerticalFrame) → DenotesVerticalFrame (vertical_frame_tree v) v
vertical_frame_spelled (vertical_frame.Datum v) = vertical_datum_law.spelled v
vertical_frame_spelled (vertical_frame.Ensemble v) = vertical_ensemble_law.spelled v

pub vertical_frame_law : Law kinds.VerticalDatum DenotesVerticalFrame vertical_frame_tree
vertical_frame_law = record { fits = vertical_frame_fits; once = vertical_frame_once; spelled = vertical_frame_spelled }

-- ---- coordinate systems

abbrev small : (n : ℕ) → n < 2 ^ 32 → Small
small n h = record { value = n; small = h }

same_system : (v w : CoordSystem) → v.kind ≡ w.kind → v.dimension ≡ w.dimension → v.ids ≡ w.ids → v ≡ w
same_system v w a b c = λ i. record { kind = a i; dimension = b i; ids = c i; count = is_prop→PathP (λ j. b j < 2 ^ 32) (λ j. hlevel props) v.count w.count i }

pub system_law : Law (kinds.Node keywords.CoordinateSystem nodes.CoordinateSystem) DenotesSystem system_tree
system_law =
    node_law (kinds.Node keywords.CoordinateSystem nodes.CoordinateSystem) (λ v. keywords.CoordinateSystem) nodes.CoordinateSystem (λ v. (v.kind, (small v.dimension v.count, (v.ids, tt)))) (λ v. refl)
    (λ v w k h. same_system v w (λ i. (h i).0) (λ i. (h i).1.0.value) (λ i. (h i).1.1.0))
    (one slots.Kind kind_law >> one slots.Dimension count_law >> each slots.Id ident_law >> done)

pub meridian_law : Law (kinds.Node keywords.Meridian nodes.Meridian) DenotesMeridian meridian_tree
meridian_law =
    node_law (kinds.Node keywords.Meridian nodes.Meridian) (λ v. keywords.Meridian) nodes.Meridian (λ v. (v.longitude, (v.unit, tt))) (λ v. refl) (λ v w k h. λ i. record { longitude = (h i).0; unit = (h i).1.0 })
    (one slots.Longitude number_law >> one slots.Unit angle_unit_law >> done)

same_order : (v w : Order) → v.position ≡ w.position → v ≡ w
same_order v w a = λ i. record { position = a i; count = is_prop→PathP (λ j. a j < 2 ^ 32) (λ j. hlevel props) v.count w.count i }

pub order_law : Law (kinds.Node keywords.Order nodes.Order) DenotesOrder order_tree
order_law =
    node_law (kinds.Node keywords.Order nodes.Order) (λ v. keywords.Order) nodes.Order (λ v. (small v.position v.count, tt)) (λ v. refl) (λ v w k h. same_order v w (λ i. (h i).0.value))
    (one slots.Position count_law >> done)

pub axis_law : Law (kinds.Node keywords.Axis nodes.Axis) DenotesAxis axis_tree
axis_law =
    node_law (kinds.Node keywords.Axis nodes.Axis) (λ v. keywords.Axis) nodes.Axis (λ v. (v.name, (v.direction, (v.meridian, (v.order, (v.unit, (v.ids, tt))))))) (λ v. refl) (λ v w k h. λ i. record { name = (h i).0; direction = (h i).1.0; meridian = (h i).1.1.0; order = (h i).1.1.1.0; unit = (h i).1.1.1.1.0; ids = (h i).1.1.1.1.1.0 })
    (one slots.Name text_law >> one slots.Direction direction_law >> maybe slots.Meridian meridian_law >> maybe slots.Order order_law >> maybe slots.Unit unit_law >> each slots.Id ident_law >> done)

-- ---- conversions

pub parameter_law : Law (kinds.Node keywords.Parameter nodes.Parameter) DenotesParameter parameter_tree
parameter_law =
    node_law (kinds.Node keywords.Parameter nodes.Parameter) (λ v. keywords.Parameter) nodes.Parameter (λ v. (v.name, (v.value, (v.unit, (v.ids, tt))))) (λ v. refl) (λ v w k h. λ i. record { name = (h i).0; value = (h i).1.0; unit = (h i).1.1.0; ids = (h i).1.1.1.0 })
    (one slots.Name text_law >> one slots.Value number_law >> maybe slots.Unit unit_law >> each slots.Id ident_law >> done)

pub conversion_law : Law (kinds.Node keywords.Conversion nodes.Conversion) DenotesConversion conversion_tree
conversion_law =
    node_law (kinds.Node keywords.Conversion nodes.Conversion) (λ v. keywords.Conversion) nodes.Conversion (λ v. (v.name, (v.method, (v.parameters, (v.ids, tt))))) (λ v. refl) (λ v w k h. λ i. record { name = (h i).0; method = (h i).1.0; parameters = (h i).1.1.0; ids = (h i).1.1.1.0 })
    (one slots.Name text_law >> one slots.Method method_law >> each slots.Parameter parameter_law >> each slots.Id ident_law >> done)

-- ---- coordinate reference systems

base_kind_once : (v w : GeodeticKind) → base_keyword v ≡ base_keyword w → v ≡ w
base_kind_once geodetic_kind.Geodetic geodetic_kind.Geodetic e = refl
base_kind_once geodetic_kind.Geographic geodetic_kind.Geographic e = refl
base_kind_once geodetic_kind.Geodetic geodetic_kind.Geographic e = absurd cc
base_kind_once geodetic_kind.Geographic geodetic_kind.Geodetic e = absurd cc

base_enters : (v : GeodeticKind) → enters kinds.BaseCrs (base_keyword v) ≡ Some nodes.BaseCrs
base_enters geodetic_kind.Geodetic = refl
base_enters geodetic_kind.Geographic = refl

pub base_law : Law kinds.BaseCrs DenotesBase base_tree
base_law =
    node_law kinds.BaseCrs (λ v. base_keyword v.kind) nodes.BaseCrs (λ v. (v.name, (v.datum, (v.prime_meridian, (v.unit, (v.ids, tt)))))) (λ v. base_enters v.kind)
    (λ v w k h. λ i. record { kind = base_kind_once v.kind w.kind k i; name = (h i).0; datum = (h i).1.0; prime_meridian = (h i).1.1.0; unit = (h i).1.1.1.0; ids = (h i).1.1.1.1.0 })
    (one slots.Name text_law >> one slots.Datum geodetic_frame_law >> maybe slots.PrimeMeridian prime_meridian_law >> maybe slots.Unit angle_unit_law >> each slots.Id ident_law >> done)

geodetic_kind_once : (v w : GeodeticKind) → geodetic_keyword v ≡ geodetic_keyword w → v ≡ w
geodetic_kind_once geodetic_kind.Geodetic geodetic_kind.Geodetic e = refl
geodetic_kind_once geodetic_kind.Geographic geodetic_kind.Geographic e = refl
geodetic_kind_once geodetic_kind.Geodetic geodetic_kind.Geographic e = absurd cc
geodetic_kind_once geodetic_kind.Geographic geodetic_kind.Geodetic e = absurd cc

-- the slot takes every kind of single reference system, as those of a compound's components and of the root do
abbrev Singles : Takes → Type 0
Singles t = ((v : GeodeticKind) → enters t (geodetic_keyword v) ≡ Some nodes.GeodeticCrs) × (enters t keywords.ProjectedCrs ≡ Some nodes.ProjectedCrs) × (enters t keywords.VerticalCrs ≡ Some nodes.VerticalCrs)

singles_single : Singles kinds.SingleCrs
singles_single = (λ v. of v, refl, refl)
  where
    of : (v : GeodeticKind) → enters kinds.SingleCrs (geodetic_keyword v) ≡ Some nodes.GeodeticCrs
    of geodetic_kind.Geodetic = refl
    of geodetic_kind.Geographic = refl

singles_any : Singles kinds.AnyCrs
singles_any = (λ v. of v, refl, refl)
  where
    of : (v : GeodeticKind) → enters kinds.AnyCrs (geodetic_keyword v) ≡ Some nodes.GeodeticCrs
    of geodetic_kind.Geodetic = refl
    of geodetic_kind.Geographic = refl

geodetic_law : (t : Takes) → Singles t → Law t DenotesGeodetic geodetic_tree
geodetic_law t s =
    node_law t (λ v. geodetic_keyword v.kind) nodes.GeodeticCrs (λ v. (v.name, (v.datum, (v.prime_meridian, (v.system, (v.axes, (v.unit, (v.usages, (v.ids, (v.remark, tt)))))))))) (λ v. s.0 v.kind)
    (λ v w k h. λ i. record { kind = geodetic_kind_once v.kind w.kind k i; name = (h i).0; datum = (h i).1.0; prime_meridian = (h i).1.1.0; system = (h i).1.1.1.0; axes = (h i).1.1.1.1.0; unit = (h i).1.1.1.1.1.0; usages = (h i).1.1.1.1.1.1.0; ids = (h i).1.1.1.1.1.1.1.0; remark = (h i).1.1.1.1.1.1.1.1.0 })
    (one slots.Name text_law >> one slots.Datum geodetic_frame_law >> maybe slots.PrimeMeridian prime_meridian_law >> one slots.Cs system_law >> some slots.Axis axis_law >> maybe slots.Unit unit_law >> each slots.Usage usage_law >> each slots.Id ident_law >> maybe slots.Remark remark_law >> done)

projected_law : (t : Takes) → Singles t → Law t DenotesProjected projected_tree
projected_law t s =
    node_law t (λ v. keywords.ProjectedCrs) nodes.ProjectedCrs (λ v. (v.name, (v.base, (v.conversion, (v.system, (v.axes, (v.unit, (v.usages, (v.ids, (v.remark, tt)))))))))) (λ v. s.1)
    (λ v w k h. λ i. record { name = (h i).0; base = (h i).1.0; conversion = (h i).1.1.0; system = (h i).1.1.1.0; axes = (h i).1.1.1.1.0; unit = (h i).1.1.1.1.1.0; usages = (h i).1.1.1.1.1.1.0; ids = (h i).1.1.1.1.1.1.1.0; remark = (h i).1.1.1.1.1.1.1.1.0 })
    (one slots.Name text_law >> one slots.Base base_law >> one slots.Conversion conversion_law >> one slots.Cs system_law >> some slots.Axis axis_law >> maybe slots.Unit unit_law >> each slots.Usage usage_law >> each slots.Id ident_law >> maybe slots.Remark remark_law >> done)

vertical_law : (t : Takes) → Singles t → Law t DenotesVertical vertical_tree
vertical_law t s =
    node_law t (λ v. keywords.VerticalCrs) nodes.VerticalCrs (λ v. (v.name, (v.datum, (v.system, (v.axes, (v.unit, (v.geoid_models, (v.usages, (v.ids, (v.remark, tt)))))))))) (λ v. s.2)
    (λ v w k h. λ i. record { name = (h i).0; datum = (h i).1.0; system = (h i).1.1.0; axes = (h i).1.1.1.0; unit = (h i).1.1.1.1.0; geoid_models = (h i).1.1.1.1.1.0; usages = (h i).1.1.1.1.1.1.0; ids = (h i).1.1.1.1.1.1.1.0; remark = (h i).1.1.1.1.1.1.1.1.0 })
    (one slots.Name text_law >> one slots.Datum vertical_frame_law >> one slots.Cs system_law >> some slots.Axis axis_law >> maybe slots.Unit unit_law >> each slots.GeoidModel geoid_model_law >> each slots.Usage usage_law >> each slots.Id ident_law >> maybe slots.Remark remark_law >> done)

no_projected : (v : GeodeticKind) → geodetic_keyword v ≡ keywords.ProjectedCrs → ⊥
no_projected geodetic_kind.Geodetic e = cc
no_projected geodetic_kind.Geographic e = cc

no_vertical : (v : GeodeticKind) → geodetic_keyword v ≡ keywords.VerticalCrs → ⊥
no_vertical geodetic_kind.Geodetic e = cc
no_vertical geodetic_kind.Geographic e = cc

no_compound : (v : GeodeticKind) → geodetic_keyword v ≡ keywords.CompoundCrs → ⊥
no_compound geodetic_kind.Geodetic e = cc
no_compound geodetic_kind.Geographic e = cc

single_fits : (t : Takes) → Singles t → (x : Bare) (v : Single) → DenotesSingle x v → Fitting t x
single_fits t s x (single.Geodetic v) d = (geodetic_law t s).fits x v d
single_fits t s x (single.Projected v) d = (projected_law t s).fits x v d
single_fits t s x (single.Vertical v) d = (vertical_law t s).fits x v d

single_once : (t : Takes) → Singles t → (x : Bare) (v w : Single) → DenotesSingle x v → DenotesSingle x w → v ≡ w
single_once t s x (single.Geodetic v) (single.Geodetic w) d e = ap single.Geodetic ((geodetic_law t s).once x v w d e)
single_once t s x (single.Projected v) (single.Projected w) d e = ap single.Projected ((projected_law t s).once x v w d e)
single_once t s x (single.Vertical v) (single.Vertical w) d e = ap single.Vertical ((vertical_law t s).once x v w d e)
single_once t s x (single.Geodetic v) (single.Projected w) d e = absurd (no_projected v.kind (one_keyword (geodetic_keyword v.kind) keywords.ProjectedCrs x d e))
single_once t s x (single.Geodetic v) (single.Vertical w) d e = absurd (no_vertical v.kind (one_keyword (geodetic_keyword v.kind) keywords.VerticalCrs x d e))
single_once t s x (single.Projected v) (single.Geodetic w) d e = absurd (no_projected w.kind (one_keyword (geodetic_keyword w.kind) keywords.ProjectedCrs x e d))
single_once t s x (single.Projected v) (single.Vertical w) d e = let k = one_keyword keywords.ProjectedCrs keywords.VerticalCrs x d e in absurd cc
single_once t s x (single.Vertical v) (single.Geodetic w) d e = absurd (no_vertical w.kind (one_keyword (geodetic_keyword w.kind) keywords.VerticalCrs x e d))
single_once t s x (single.Vertical v) (single.Projected w) d e = let k = one_keyword keywords.VerticalCrs keywords.ProjectedCrs x d e in absurd cc

single_spelled : (t : Takes) → Singles t → (v : Single) → DenotesSingle (single_tree v) v
single_spelled t s (single.Geodetic v) = (geodetic_law t s).spelled v
single_spelled t s (single.Projected v) = (projected_law t s).spelled v
single_spelled t s (single.Vertical v) = (vertical_law t s).spelled v

single_law : (t : Takes) → Singles t → Law t DenotesSingle single_tree
single_law t s = record { fits = single_fits t s; once = single_once t s; spelled = single_spelled t s }

pub component_law : Law kinds.SingleCrs DenotesSingle single_tree
component_law = single_law kinds.SingleCrs singles_single

pub compound_law : Law kinds.AnyCrs DenotesCompound compound_tree
compound_law =
    node_law kinds.AnyCrs (λ v. keywords.CompoundCrs) nodes.CompoundCrs (λ v. (v.name, (v.first, (v.second, (v.usages, (v.ids, (v.remark, tt))))))) (λ v. refl)
    (λ v w k h. λ i. record { name = (h i).0; first = (h i).1.0; second = (h i).1.1.0; usages = (h i).1.1.1.0; ids = (h i).1.1.1.1.0; remark = (h i).1.1.1.1.1.0 })
    (one slots.Name text_law >> one slots.First component_law >> one slots.Second component_law >> each slots.Usage usage_law >> each slots.Id ident_law >> maybe slots.Remark remark_law >> done)

-- ---- the root

no_single : (x : Bare) (v : Single) (w : Compound) → DenotesSingle x v → DenotesCompound x w → ⊥
no_single x (single.Geodetic v) w d e = no_compound v.kind (one_keyword (geodetic_keyword v.kind) keywords.CompoundCrs x d e)
no_single x (single.Projected v) w d e = let k = one_keyword keywords.ProjectedCrs keywords.CompoundCrs x d e in cc
no_single x (single.Vertical v) w d e = let k = one_keyword keywords.VerticalCrs keywords.CompoundCrs x d e in cc

parts_fits : (x : Bare) (v : CrsParts) → DenotesParts x v → Fitting kinds.AnyCrs x
parts_fits x (parts.Single v) d = single_fits kinds.AnyCrs singles_any x v d
parts_fits x (parts.Compound v) d = compound_law.fits x v d

parts_once : (x : Bare) (v w : CrsParts) → DenotesParts x v → DenotesParts x w → v ≡ w
parts_once x (parts.Single v) (parts.Single w) d e = ap parts.Single (single_once kinds.AnyCrs singles_any x v w d e)
parts_once x (parts.Compound v) (parts.Compound w) d e = ap parts.Compound (compound_law.once x v w d e)
parts_once x (parts.Single v) (parts.Compound w) d e = absurd (no_single x v w d e)
parts_once x (parts.Compound v) (parts.Single w) d e = absurd (no_single x w v e d)

parts_spelled : (v : CrsParts) → DenotesParts (parts_tree v) v
parts_spelled (parts.Single v) = single_spelled kinds.AnyCrs singles_any v
parts_spelled (parts.Compound v) = compound_law.spelled v

pub parts_law : Law kinds.AnyCrs DenotesParts parts_tree
parts_law = record { fits = parts_fits; once = parts_once; spelled = parts_spelled }
