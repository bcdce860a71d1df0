-- Nodes that fit a slot have a value: one line for each slot, in the order of its row.
use Rattle.std.proofs.Common.{◌≡◌, Option, Some, None, refl, sym}
use Rattle.std.proofs.lemmas.Option.{same_Some}
use Rattle.crs_part.specs.declared.units.UnitDefinition.{UnitDefinition}
use Rattle.crs_part.specs.declared.units.Unit as units
use Rattle.crs_part.specs.declared.units.Unit.TheVariants as unit
use Rattle.crs_part.specs.declared.units.LengthUnit.{LengthUnit}
use Rattle.crs_part.specs.declared.units.LengthUnit.TheVariants as length_unit
use Rattle.crs_part.specs.declared.units.AngleUnit.{AngleUnit}
use Rattle.crs_part.specs.declared.units.AngleUnit.TheVariants as angle_unit
use Rattle.crs_part.specs.declared.datums.Datum.{Datum}
use Rattle.crs_part.specs.declared.datums.GeodeticEnsemble.{GeodeticEnsemble}
use Rattle.crs_part.specs.declared.datums.GeodeticFrame.{GeodeticFrame}
use Rattle.crs_part.specs.declared.datums.GeodeticFrame.TheVariants as geodetic_frame
use Rattle.crs_part.specs.declared.datums.VerticalDatum.{VerticalDatum}
use Rattle.crs_part.specs.declared.datums.VerticalEnsemble.{VerticalEnsemble}
use Rattle.crs_part.specs.declared.datums.VerticalFrame.{VerticalFrame}
use Rattle.crs_part.specs.declared.datums.VerticalFrame.TheVariants as vertical_frame
use Rattle.crs_part.specs.declared.crs.GeodeticKind.{GeodeticKind}
use Rattle.crs_part.specs.declared.crs.GeodeticKind.TheVariants as geodetic_kind
use Rattle.crs_part.specs.declared.crs.BaseCrs.{BaseCrs}
use Rattle.crs_part.specs.declared.crs.Geodetic.{Geodetic}
use Rattle.crs_part.specs.declared.crs.Projected.{Projected}
use Rattle.crs_part.specs.declared.crs.Vertical as verticals
use Rattle.crs_part.specs.declared.crs.Single.{Single}
use Rattle.crs_part.specs.declared.crs.Single.TheVariants as single
use Rattle.crs_part.specs.declared.crs.Compound.{Compound}
use Rattle.crs_part.specs.declared.crs.CrsParts.{CrsParts}
use Rattle.crs_part.specs.declared.crs.CrsParts.TheVariants as parts
use Rattle.wkt_grammar.specs.declared.table.Keyword.{Keyword}
use Rattle.wkt_grammar.specs.declared.table.Keyword.TheVariants as keywords
use Rattle.wkt_grammar.specs.declared.table.Node.{Node}
use Rattle.wkt_grammar.specs.declared.table.Node.TheVariants as nodes
use Rattle.wkt_grammar.specs.declared.table.SlotName.TheVariants as slots
use Rattle.wkt_grammar.specs.declared.table.Takes.TheVariants as kinds
use Rattle.wkt_grammar.specs.Rows.{enters}
use Rattle.wkt_grammar.specs.Bare.{Bare}
use Rattle.wkt_grammar.specs.Denotes.{DenotesValue, DenotesIdent, DenotesNamed, DenotesUnitOf, DenotesUnit, DenotesLengthUnit, DenotesAngleUnit, DenotesBoundingBox, DenotesVerticalExtent, DenotesUsage, DenotesEllipsoid, DenotesPrimeMeridian, DenotesDatum, DenotesVerticalDatum, DenotesAccuracy, DenotesGeodeticEnsemble, DenotesVerticalEnsemble, DenotesGeodeticFrame, DenotesVerticalFrame, DenotesSystem, DenotesMeridian, DenotesOrder, DenotesAxis, DenotesParameter, DenotesConversion, geodetic_keyword, base_keyword, DenotesBase, DenotesGeodetic, DenotesProjected, DenotesVertical, DenotesSingle, DenotesCompound, DenotesParts}
use Rattle.wkt_crs.proofs.Values.{Has, Entered, one, maybe, each, some, done, ◌>>◌, node_has, by_keyword, alone}
use Rattle.wkt_crs.proofs.LeafValues.{text_has, number_has, code_has, count_has, kind_has, direction_has}

-- ---- values, identifiers

scope_has : Has (kinds.Node keywords.Scope nodes.Value) (DenotesValue keywords.Scope)
scope_has = alone keywords.Scope nodes.Value (one slots.Value text_has >> done) (λ v. v.0) (λ x v d. d)

area_has : Has (kinds.Node keywords.Area nodes.Value) (DenotesValue keywords.Area)
area_has = alone keywords.Area nodes.Value (one slots.Value text_has >> done) (λ v. v.0) (λ x v d. d)

anchor_has : Has (kinds.Node keywords.Anchor nodes.Value) (DenotesValue keywords.Anchor)
anchor_has = alone keywords.Anchor nodes.Value (one slots.Value text_has >> done) (λ v. v.0) (λ x v d. d)

citation_has : Has (kinds.Node keywords.Citation nodes.Value) (DenotesValue keywords.Citation)
citation_has = alone keywords.Citation nodes.Value (one slots.Value text_has >> done) (λ v. v.0) (λ x v d. d)

uri_has : Has (kinds.Node keywords.Uri nodes.Value) (DenotesValue keywords.Uri)
uri_has = alone keywords.Uri nodes.Value (one slots.Value text_has >> done) (λ v. v.0) (λ x v d. d)

remark_has : Has (kinds.Node keywords.Remark nodes.Value) (DenotesValue keywords.Remark)
remark_has = alone keywords.Remark nodes.Value (one slots.Value text_has >> done) (λ v. v.0) (λ x v d. d)

ident_has : Has (kinds.Node keywords.Identifier nodes.Identifier) DenotesIdent
ident_has =
    alone keywords.Identifier nodes.Identifier
    (one slots.Authority text_has >> one slots.Code code_has >> maybe slots.Version code_has >> maybe slots.Citation citation_has >> maybe slots.Uri uri_has >> done)
    (λ v. record { authority = v.0; code = v.1.0; version = v.1.1.0; citation = v.1.1.1.0; uri = v.1.1.1.1.0 }) (λ x v d. d)

member_has : Has (kinds.Node keywords.Member nodes.Named) (DenotesNamed keywords.Member)
member_has = alone keywords.Member nodes.Named (one slots.Name text_has >> each slots.Id ident_has >> done) (λ v. record { name = v.0; ids = v.1.0 }) (λ x v d. d)

method_has : Has (kinds.Node keywords.Method nodes.Named) (DenotesNamed keywords.Method)
method_has = alone keywords.Method nodes.Named (one slots.Name text_has >> each slots.Id ident_has >> done) (λ v. record { name = v.0; ids = v.1.0 }) (λ x v d. d)

geoid_model_has : Has (kinds.Node keywords.GeoidModel nodes.Named) (DenotesNamed keywords.GeoidModel)
geoid_model_has = alone keywords.GeoidModel nodes.Named (one slots.Name text_has >> each slots.Id ident_has >> done) (λ v. record { name = v.0; ids = v.1.0 }) (λ x v d. d)

-- ---- units

no_row : (A : Type 0) (m : Node) → ◌≡◌ {A = Option Node} None (Some m) → A
no_row A m e = absurd cc

unit_of : (K : Keyword) (m : Node) → Some nodes.Unit ≡ Some m → (x : Bare) → Entered K m x → (v : UnitDefinition) × DenotesUnitOf K x v
unit_of K m e x h =
    let v = node_has nodes.Unit (one slots.Name text_has >> one slots.Factor number_has >> each slots.Id ident_has >> done) K m (sym (same_Some nodes.Unit m e)) x h in
    (record { name = v.0.0; factor = v.0.1.0; ids = v.0.1.1.0 }, v.1)

unit_by : (K : Keyword) (m : Node) → enters kinds.AnyUnit K ≡ Some m → (x : Bare) → Entered K m x → (v : units.Unit) × DenotesUnit x v
unit_by keywords.LengthUnit m e x h = let v = unit_of keywords.LengthUnit m e x h in (unit.Length v.0, v.1)
unit_by keywords.AngleUnit m e x h = let v = unit_of keywords.AngleUnit m e x h in (unit.Angle v.0, v.1)
unit_by keywords.ScaleUnit m e x h = let v = unit_of keywords.ScaleUnit m e x h in (unit.Scale v.0, v.1)
unit_by keywords.Unit m e x h = let v = unit_of keywords.Unit m e x h in (unit.Generic v.0, v.1)
unit_by k m e x h = no_row _ m e

unit_has : Has kinds.AnyUnit DenotesUnit
unit_has = by_keyword kinds.AnyUnit refl unit_by

length_unit_by : (K : Keyword) (m : Node) → enters kinds.LengthUnit K ≡ Some m → (x : Bare) → Entered K m x → (v : LengthUnit) × DenotesLengthUnit x v
length_unit_by keywords.LengthUnit m e x h = let v = unit_of keywords.LengthUnit m e x h in (length_unit.Length v.0, v.1)
length_unit_by keywords.Unit m e x h = let v = unit_of keywords.Unit m e x h in (length_unit.Generic v.0, v.1)
length_unit_by k m e x h = no_row _ m e

length_unit_has : Has kinds.LengthUnit DenotesLengthUnit
length_unit_has = by_keyword kinds.LengthUnit refl length_unit_by

angle_unit_by : (K : Keyword) (m : Node) → enters kinds.AngleUnit K ≡ Some m → (x : Bare) → Entered K m x → (v : AngleUnit) × DenotesAngleUnit x v
angle_unit_by keywords.AngleUnit m e x h = let v = unit_of keywords.AngleUnit m e x h in (angle_unit.Angle v.0, v.1)
angle_unit_by keywords.Unit m e x h = let v = unit_of keywords.Unit m e x h in (angle_unit.Generic v.0, v.1)
angle_unit_by k m e x h = no_row _ m e

angle_unit_has : Has kinds.AngleUnit DenotesAngleUnit
angle_unit_has = by_keyword kinds.AngleUnit refl angle_unit_by

-- ---- usages

bounding_box_has : Has (kinds.Node keywords.BoundingBox nodes.BoundingBox) DenotesBoundingBox
bounding_box_has =
    alone keywords.BoundingBox nodes.BoundingBox
    (one slots.South number_has >> one slots.West number_has >> one slots.North number_has >> one slots.East number_has >> done)
    (λ v. record { south = v.0; west = v.1.0; north = v.1.1.0; east = v.1.1.1.0 }) (λ x v d. d)

vertical_extent_has : Has (kinds.Node keywords.VerticalExtent nodes.VerticalExtent) DenotesVerticalExtent
vertical_extent_has =
    alone keywords.VerticalExtent nodes.VerticalExtent
    (one slots.Low number_has >> one slots.High number_has >> maybe slots.Unit length_unit_has >> done)
    (λ v. record { low = v.0; high = v.1.0; unit = v.1.1.0 }) (λ x v d. d)

usage_has : Has (kinds.Node keywords.Usage nodes.Usage) DenotesUsage
usage_has =
    alone keywords.Usage nodes.Usage
    (one slots.Scope scope_has >> maybe slots.Area area_has >> maybe slots.BoundingBox bounding_box_has >> maybe slots.VerticalExtent vertical_extent_has >> done)
    (λ v. record { scope = v.0; area = v.1.0; bounding_box = v.1.1.0; vertical_extent = v.1.1.1.0 }) (λ x v d. d)

-- ---- datums

ellipsoid_has : Has (kinds.Node keywords.Ellipsoid nodes.Ellipsoid) DenotesEllipsoid
ellipsoid_has =
    alone keywords.Ellipsoid nodes.Ellipsoid
    (one slots.Name text_has >> one slots.Radius number_has >> one slots.Flattening number_has >> maybe slots.Unit length_unit_has >> each slots.Id ident_has >> done)
    (λ v. record { name = v.0; radius = v.1.0; flattening = v.1.1.0; unit = v.1.1.1.0; ids = v.1.1.1.1.0 }) (λ x v d. d)

prime_meridian_has : Has (kinds.Node keywords.PrimeMeridian nodes.PrimeMeridian) DenotesPrimeMeridian
prime_meridian_has =
    alone keywords.PrimeMeridian nodes.PrimeMeridian
    (one slots.Name text_has >> one slots.Longitude number_has >> maybe slots.Unit angle_unit_has >> each slots.Id ident_has >> done)
    (λ v. record { name = v.0; longitude = v.1.0; unit = v.1.1.0; ids = v.1.1.1.0 }) (λ x v d. d)

accuracy_has : Has (kinds.Node keywords.EnsembleAccuracy nodes.EnsembleAccuracy) DenotesAccuracy
accuracy_has =
    alone keywords.EnsembleAccuracy nodes.EnsembleAccuracy
    (one slots.Value number_has >> done)
    (λ v. v.0) (λ x v d. d)

datum_of : (m : Node) → Some nodes.Datum ≡ Some m → (x : Bare) → Entered keywords.Datum m x → (v : Datum) × DenotesDatum x v
datum_of m e x h =
    let v = node_has nodes.Datum (one slots.Name text_has >> one slots.Ellipsoid ellipsoid_has >> maybe slots.Anchor anchor_has >> each slots.Id ident_has >> done) keywords.Datum m (sym (same_Some nodes.Datum m e)) x h in
    (record { name = v.0.0; ellipsoid = v.0.1.0; anchor = v.0.1.1.0; ids = v.0.1.1.1.0 }, v.1)

geodetic_ensemble_of : (m : Node) → Some nodes.GeodeticEnsemble ≡ Some m → (x : Bare) → Entered keywords.Ensemble m x → (v : GeodeticEnsemble) × DenotesGeodeticEnsemble x v
geodetic_ensemble_of m e x h =
    let v = node_has nodes.GeodeticEnsemble (one slots.Name text_has >> some slots.Member member_has >> one slots.Ellipsoid ellipsoid_has >> one slots.Accuracy accuracy_has >> each slots.Id ident_has >> done) keywords.Ensemble m (sym (same_Some nodes.GeodeticEnsemble m e)) x h in
    (record { name = v.0.0; members = v.0.1.0; ellipsoid = v.0.1.1.0; accuracy = v.0.1.1.1.0; ids = v.0.1.1.1.1.0 }, v.1)

vertical_datum_of : (m : Node) → Some nodes.VerticalDatum ≡ Some m → (x : Bare) → Entered keywords.VerticalDatum m x → (v : VerticalDatum) × DenotesVerticalDatum x v
vertical_datum_of m e x h =
    let v = node_has nodes.VerticalDatum (one slots.Name text_has >> maybe slots.Anchor anchor_has >> each slots.Id ident_has >> done) keywords.VerticalDatum m (sym (same_Some nodes.VerticalDatum m e)) x h in
    (record { name = v.0.0; anchor = v.0.1.0; ids = v.0.1.1.0 }, v.1)

vertical_ensemble_of : (m : Node) → Some nodes.VerticalEnsemble ≡ Some m → (x : Bare) → Entered keywords.Ensemble m x → (v : VerticalEnsemble) × DenotesVerticalEnsemble x v
vertical_ensemble_of m e x h =
    let v = node_has nodes.VerticalEnsemble (one slots.Name text_has >> some slots.Member member_has >> one slots.Accuracy accuracy_has >> each slots.Id ident_has >> done) keywords.Ensemble m (sym (same_Some nodes.VerticalEnsemble m e)) x h in
    (record { name = v.0.0; members = v.0.1.0; accuracy = v.0.1.1.0; ids = v.0.1.1.1.0 }, v.1)

geodetic_frame_by : (K : Keyword) (m : Node) → enters kinds.GeodeticDatum K ≡ Some m → (x : Bare) → Entered K m x → (v : GeodeticFrame) × DenotesGeodeticFrame x v
geodetic_frame_by keywords.Datum m e x h = let v = datum_of m e x h in (geodetic_frame.Datum v.0, v.1)
geodetic_frame_by keywords.Ensemble m e x h = let v = geodetic_ensemble_of m e x h in (geodetic_frame.Ensemble v.0, v.1)
geodetic_frame_by k m e x h = no_row _ m e

geodetic_frame_has : Has kinds.GeodeticDatum DenotesGeodeticFrame
geodetic_frame_has = by_keyword kinds.GeodeticDatum refl geodetic_frame_by

vertical_frame_by : (K : Keyword) (m : Node) → enters kinds.VerticalDatum K ≡ Some m → (x : Bare) → Entered K m x → (v : VerticalFrame) × DenotesVerticalFrame x v
vertical_frame_by keywords.VerticalDatum m e x h = let v = vertical_datum_of m e x h in (vertical_frame.Datum v.0, v.1)
vertical_frame_by keywords.Ensemble m e x h = let v = vertical_ensemble_of m e x h in (vertical_frame.Ensemble v.0, v.1)
vertical_frame_by k m e x h = no_row _ m e

vertical_frame_has : Has kinds.VerticalDatum DenotesVerticalFrame
vertical_frame_has = by_keyword kinds.VerticalDatum refl vertical_frame_by

-- ---- coordinate systems

system_has : Has (kinds.Node keywords.CoordinateSystem nodes.CoordinateSystem) DenotesSystem
system_has =
    alone keywords.CoordinateSystem nodes.CoordinateSystem
    (one slots.Kind kind_has >> one slots.Dimension count_has >> each slots.Id ident_has >> done)
    (λ v. record { kind = v.0; dimension = v.1.0.value; ids = v.1.1.0; count = v.1.0.small }) (λ x v d. d)

meridian_has : Has (kinds.Node keywords.Meridian nodes.Meridian) DenotesMeridian
meridian_has =
    alone keywords.Meridian nodes.Meridian
    (one slots.Longitude number_has >> one slots.Unit angle_unit_has >> done)
    (λ v. record { longitude = v.0; unit = v.1.0 }) (λ x v d. d)

order_has : Has (kinds.Node keywords.Order nodes.Order) DenotesOrder
order_has =
    alone keywords.Order nodes.Order
    (one slots.Position count_has >> done)
    (λ v. record { position = v.0.value; count = v.0.small }) (λ x v d. d)

axis_has : Has (kinds.Node keywords.Axis nodes.Axis) DenotesAxis
axis_has =
    alone keywords.Axis nodes.Axis
    (one slots.Name text_has >> one slots.Direction direction_has >> maybe slots.Meridian meridian_has >> maybe slots.Order order_has >> maybe slots.Unit unit_has >> each slots.Id ident_has >> done)
    (λ v. record { name = v.0; direction = v.1.0; meridian = v.1.1.0; order = v.1.1.1.0; unit = v.1.1.1.1.0; ids = v.1.1.1.1.1.0 }) (λ x v d. d)

-- ---- conversions

parameter_has : Has (kinds.Node keywords.Parameter nodes.Parameter) DenotesParameter
parameter_has =
    alone keywords.Parameter nodes.Parameter
    (one slots.Name text_has >> one slots.Value number_has >> maybe slots.Unit unit_has >> each slots.Id ident_has >> done)
    (λ v. record { name = v.0; value = v.1.0; unit = v.1.1.0; ids = v.1.1.1.0 }) (λ x v d. d)

conversion_has : Has (kinds.Node keywords.Conversion nodes.Conversion) DenotesConversion
conversion_has =
    alone keywords.Conversion nodes.Conversion
    (one slots.Name text_has >> one slots.Method method_has >> each slots.Parameter parameter_has >> each slots.Id ident_has >> done)
    (λ v. record { name = v.0; method = v.1.0; parameters = v.1.1.0; ids = v.1.1.1.0 }) (λ x v d. d)

-- ---- coordinate reference systems

base_of : (kind : GeodeticKind) (m : Node) → Some nodes.BaseCrs ≡ Some m → (x : Bare) → Entered (base_keyword kind) m x → (v : BaseCrs) × DenotesBase x v
base_of kind m e x h =
    let v = node_has nodes.BaseCrs (one slots.Name text_has >> one slots.Datum geodetic_frame_has >> maybe slots.PrimeMeridian prime_meridian_has >> maybe slots.Unit angle_unit_has >> each slots.Id ident_has >> done) (base_keyword kind) m (sym (same_Some nodes.BaseCrs m e)) x h in
    (record { kind = kind; name = v.0.0; datum = v.0.1.0; prime_meridian = v.0.1.1.0; unit = v.0.1.1.1.0; ids = v.0.1.1.1.1.0 }, v.1)

base_by : (K : Keyword) (m : Node) → enters kinds.BaseCrs K ≡ Some m → (x : Bare) → Entered K m x → (v : BaseCrs) × DenotesBase x v
base_by keywords.BaseGeodeticCrs m e x h = base_of geodetic_kind.Geodetic m e x h
base_by keywords.BaseGeographicCrs m e x h = base_of geodetic_kind.Geographic m e x h
base_by k m e x h = no_row _ m e

base_has : Has kinds.BaseCrs DenotesBase
base_has = by_keyword kinds.BaseCrs refl base_by

geodetic_of : (kind : GeodeticKind) (m : Node) → Some nodes.GeodeticCrs ≡ Some m → (x : Bare) → Entered (geodetic_keyword kind) m x → (v : Geodetic) × DenotesGeodetic x v
geodetic_of kind m e x h =
    let v = node_has nodes.GeodeticCrs (one slots.Name text_has >> one slots.Datum geodetic_frame_has >> maybe slots.PrimeMeridian prime_meridian_has >> one slots.Cs system_has >> some slots.Axis axis_has >> maybe slots.Unit unit_has >> each slots.Usage usage_has >> each slots.Id ident_has >> maybe slots.Remark remark_has >> done) (geodetic_keyword kind) m (sym (same_Some nodes.GeodeticCrs m e)) x h in
    (record { kind = kind; name = v.0.0; datum = v.0.1.0; prime_meridian = v.0.1.1.0; system = v.0.1.1.1.0; axes = v.0.1.1.1.1.0; unit = v.0.1.1.1.1.1.0; usages = v.0.1.1.1.1.1.1.0; ids = v.0.1.1.1.1.1.1.1.0; remark = v.0.1.1.1.1.1.1.1.1.0 }, v.1)

projected_of : (m : Node) → Some nodes.ProjectedCrs ≡ Some m → (x : Bare) → Entered keywords.ProjectedCrs m x → (v : Projected) × DenotesProjected x v
projected_of m e x h =
    let v = node_has nodes.ProjectedCrs (one slots.Name text_has >> one slots.Base base_has >> one slots.Conversion conversion_has >> one slots.Cs system_has >> some slots.Axis axis_has >> maybe slots.Unit unit_has >> each slots.Usage usage_has >> each slots.Id ident_has >> maybe slots.Remark remark_has >> done) keywords.ProjectedCrs m (sym (same_Some nodes.ProjectedCrs m e)) x h in
    (record { name = v.0.0; base = v.0.1.0; conversion = v.0.1.1.0; system = v.0.1.1.1.0; axes = v.0.1.1.1.1.0; unit = v.0.1.1.1.1.1.0; usages = v.0.1.1.1.1.1.1.0; ids = v.0.1.1.1.1.1.1.1.0; remark = v.0.1.1.1.1.1.1.1.1.0 }, v.1)

vertical_of : (m : Node) → Some nodes.VerticalCrs ≡ Some m → (x : Bare) → Entered keywords.VerticalCrs m x → (v : verticals.Vertical) × DenotesVertical x v
vertical_of m e x h =
    let v = node_has nodes.VerticalCrs (one slots.Name text_has >> one slots.Datum vertical_frame_has >> one slots.Cs system_has >> some slots.Axis axis_has >> maybe slots.Unit unit_has >> each slots.GeoidModel geoid_model_has >> each slots.Usage usage_has >> each slots.Id ident_has >> maybe slots.Remark remark_has >> done) keywords.VerticalCrs m (sym (same_Some nodes.VerticalCrs m e)) x h in
    (record { name = v.0.0; datum = v.0.1.0; system = v.0.1.1.0; axes = v.0.1.1.1.0; unit = v.0.1.1.1.1.0; geoid_models = v.0.1.1.1.1.1.0; usages = v.0.1.1.1.1.1.1.0; ids = v.0.1.1.1.1.1.1.1.0; remark = v.0.1.1.1.1.1.1.1.1.0 }, v.1)

single_by : (K : Keyword) (m : Node) → enters kinds.SingleCrs K ≡ Some m → (x : Bare) → Entered K m x → (v : Single) × DenotesSingle x v
single_by keywords.GeodeticCrs m e x h = let v = geodetic_of geodetic_kind.Geodetic m e x h in (single.Geodetic v.0, v.1)
single_by keywords.GeographicCrs m e x h = let v = geodetic_of geodetic_kind.Geographic m e x h in (single.Geodetic v.0, v.1)
single_by keywords.ProjectedCrs m e x h = let v = projected_of m e x h in (single.Projected v.0, v.1)
single_by keywords.VerticalCrs m e x h = let v = vertical_of m e x h in (single.Vertical v.0, v.1)
single_by k m e x h = no_row _ m e

single_has : Has kinds.SingleCrs DenotesSingle
single_has = by_keyword kinds.SingleCrs refl single_by

compound_of : (m : Node) → Some nodes.CompoundCrs ≡ Some m → (x : Bare) → Entered keywords.CompoundCrs m x → (v : Compound) × DenotesCompound x v
compound_of m e x h =
    let v = node_has nodes.CompoundCrs (one slots.Name text_has >> one slots.First single_has >> one slots.Second single_has >> each slots.Usage usage_has >> each slots.Id ident_has >> maybe slots.Remark remark_has >> done) keywords.CompoundCrs m (sym (same_Some nodes.CompoundCrs m e)) x h in
    (record { name = v.0.0; first = v.0.1.0; second = v.0.1.1.0; usages = v.0.1.1.1.0; ids = v.0.1.1.1.1.0; remark = v.0.1.1.1.1.1.0 }, v.1)

parts_by : (K : Keyword) (m : Node) → enters kinds.AnyCrs K ≡ Some m → (x : Bare) → Entered K m x → (v : CrsParts) × DenotesParts x v
parts_by keywords.GeodeticCrs m e x h = let v = single_by keywords.GeodeticCrs m e x h in (parts.Single v.0, v.1)
parts_by keywords.GeographicCrs m e x h = let v = single_by keywords.GeographicCrs m e x h in (parts.Single v.0, v.1)
parts_by keywords.ProjectedCrs m e x h = let v = single_by keywords.ProjectedCrs m e x h in (parts.Single v.0, v.1)
parts_by keywords.VerticalCrs m e x h = let v = single_by keywords.VerticalCrs m e x h in (parts.Single v.0, v.1)
parts_by keywords.CompoundCrs m e x h = let v = compound_of m e x h in (parts.Compound v.0, v.1)
parts_by k m e x h = no_row _ m e

pub parts_has : Has kinds.AnyCrs DenotesParts
parts_has = by_keyword kinds.AnyCrs refl parts_by
