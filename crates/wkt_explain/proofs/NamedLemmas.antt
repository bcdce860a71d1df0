-- The keywords that a sentence names are those that the grammar takes.
use Rattle.std.proofs.Common.{◌≡◌, Bool, true, false, ◌||◌, if◌then◌else◌, Some, None, refl}
use Rattle.std.specs.Option.{is_some}
use Rattle.std.specs.List.{list_any}
use Rattle.wkt_grammar.specs.declared.table.Keyword.{Keyword}
use Rattle.wkt_grammar.specs.declared.table.Keyword.TheVariants as keywords
use Rattle.wkt_grammar.specs.declared.table.Node.{Node}
use Rattle.wkt_grammar.specs.declared.table.Takes.{Takes}
use Rattle.wkt_grammar.specs.declared.table.Takes.TheVariants as kinds
use Rattle.wkt_grammar.specs.Words.{same_keyword}
use Rattle.wkt_grammar.specs.Rows.{enters}
use Rattle.wkt_explain.specs.Wanted.{admitted}

abbrev Named : Takes → Keyword → Type 0
Named t k = list_any (λ own. same_keyword own k) (admitted t) ≡ is_some (enters t k)

single_crs : (k : Keyword) → Named kinds.SingleCrs k
single_crs keywords.GeodeticCrs = refl
single_crs keywords.GeographicCrs = refl
single_crs keywords.ProjectedCrs = refl
single_crs keywords.VerticalCrs = refl
single_crs keywords.CompoundCrs = refl
single_crs keywords.BaseGeodeticCrs = refl
single_crs keywords.BaseGeographicCrs = refl
single_crs keywords.Datum = refl
single_crs keywords.VerticalDatum = refl
single_crs keywords.Ensemble = refl
single_crs keywords.Member = refl
single_crs keywords.Method = refl
single_crs keywords.GeoidModel = refl
single_crs keywords.EnsembleAccuracy = refl
single_crs keywords.Ellipsoid = refl
single_crs keywords.PrimeMeridian = refl
single_crs keywords.Conversion = refl
single_crs keywords.Parameter = refl
single_crs keywords.LengthUnit = refl
single_crs keywords.AngleUnit = refl
single_crs keywords.ScaleUnit = refl
single_crs keywords.Unit = refl
single_crs keywords.CoordinateSystem = refl
single_crs keywords.Axis = refl
single_crs keywords.Meridian = refl
single_crs keywords.Order = refl
single_crs keywords.Usage = refl
single_crs keywords.BoundingBox = refl
single_crs keywords.VerticalExtent = refl
single_crs keywords.Scope = refl
single_crs keywords.Area = refl
single_crs keywords.Anchor = refl
single_crs keywords.Citation = refl
single_crs keywords.Uri = refl
single_crs keywords.Remark = refl
single_crs keywords.Identifier = refl

any_crs : (k : Keyword) → Named kinds.AnyCrs k
any_crs keywords.GeodeticCrs = refl
any_crs keywords.GeographicCrs = refl
any_crs keywords.ProjectedCrs = refl
any_crs keywords.VerticalCrs = refl
any_crs keywords.CompoundCrs = refl
any_crs keywords.BaseGeodeticCrs = refl
any_crs keywords.BaseGeographicCrs = refl
any_crs keywords.Datum = refl
any_crs keywords.VerticalDatum = refl
any_crs keywords.Ensemble = refl
any_crs keywords.Member = refl
any_crs keywords.Method = refl
any_crs keywords.GeoidModel = refl
any_crs keywords.EnsembleAccuracy = refl
any_crs keywords.Ellipsoid = refl
any_crs keywords.PrimeMeridian = refl
any_crs keywords.Conversion = refl
any_crs keywords.Parameter = refl
any_crs keywords.LengthUnit = refl
any_crs keywords.AngleUnit = refl
any_crs keywords.ScaleUnit = refl
any_crs keywords.Unit = refl
any_crs keywords.CoordinateSystem = refl
any_crs keywords.Axis = refl
any_crs keywords.Meridian = refl
any_crs keywords.Order = refl
any_crs keywords.Usage = refl
any_crs keywords.BoundingBox = refl
any_crs keywords.VerticalExtent = refl
any_crs keywords.Scope = refl
any_crs keywords.Area = refl
any_crs keywords.Anchor = refl
any_crs keywords.Citation = refl
any_crs keywords.Uri = refl
any_crs keywords.Remark = refl
any_crs keywords.Identifier = refl

geodetic_datum : (k : Keyword) → Named kinds.GeodeticDatum k
geodetic_datum keywords.GeodeticCrs = refl
geodetic_datum keywords.GeographicCrs = refl
geodetic_datum keywords.ProjectedCrs = refl
geodetic_datum keywords.VerticalCrs = refl
geodetic_datum keywords.CompoundCrs = refl
geodetic_datum keywords.BaseGeodeticCrs = refl
geodetic_datum keywords.BaseGeographicCrs = refl
geodetic_datum keywords.Datum = refl
geodetic_datum keywords.VerticalDatum = refl
geodetic_datum keywords.Ensemble = refl
geodetic_datum keywords.Member = refl
geodetic_datum keywords.Method = refl
geodetic_datum keywords.GeoidModel = refl
geodetic_datum keywords.EnsembleAccuracy = refl
geodetic_datum keywords.Ellipsoid = refl
geodetic_datum keywords.PrimeMeridian = refl
geodetic_datum keywords.Conversion = refl
geodetic_datum keywords.Parameter = refl
geodetic_datum keywords.LengthUnit = refl
geodetic_datum keywords.AngleUnit = refl
geodetic_datum keywords.ScaleUnit = refl
geodetic_datum keywords.Unit = refl
geodetic_datum keywords.CoordinateSystem = refl
geodetic_datum keywords.Axis = refl
geodetic_datum keywords.Meridian = refl
geodetic_datum keywords.Order = refl
geodetic_datum keywords.Usage = refl
geodetic_datum keywords.BoundingBox = refl
geodetic_datum keywords.VerticalExtent = refl
geodetic_datum keywords.Scope = refl
geodetic_datum keywords.Area = refl
geodetic_datum keywords.Anchor = refl
geodetic_datum keywords.Citation = refl
geodetic_datum keywords.Uri = refl
geodetic_datum keywords.Remark = refl
geodetic_datum keywords.Identifier = refl

vertical_datum : (k : Keyword) → Named kinds.VerticalDatum k
vertical_datum keywords.GeodeticCrs = refl
vertical_datum keywords.GeographicCrs = refl
vertical_datum keywords.ProjectedCrs = refl
vertical_datum keywords.VerticalCrs = refl
vertical_datum keywords.CompoundCrs = refl
vertical_datum keywords.BaseGeodeticCrs = refl
vertical_datum keywords.BaseGeographicCrs = refl
vertical_datum keywords.Datum = refl
vertical_datum keywords.VerticalDatum = refl
vertical_datum keywords.Ensemble = refl
vertical_datum keywords.Member = refl
vertical_datum keywords.Method = refl
vertical_datum keywords.GeoidModel = refl
vertical_datum keywords.EnsembleAccuracy = refl
vertical_datum keywords.Ellipsoid = refl
vertical_datum keywords.PrimeMeridian = refl
vertical_datum keywords.Conversion = refl
vertical_datum keywords.Parameter = refl
vertical_datum keywords.LengthUnit = refl
vertical_datum keywords.AngleUnit = refl
vertical_datum keywords.ScaleUnit = refl
vertical_datum keywords.Unit = refl
vertical_datum keywords.CoordinateSystem = refl
vertical_datum keywords.Axis = refl
vertical_datum keywords.Meridian = refl
vertical_datum keywords.Order = refl
vertical_datum keywords.Usage = refl
vertical_datum keywords.BoundingBox = refl
vertical_datum keywords.VerticalExtent = refl
vertical_datum keywords.Scope = refl
vertical_datum keywords.Area = refl
vertical_datum keywords.Anchor = refl
vertical_datum keywords.Citation = refl
vertical_datum keywords.Uri = refl
vertical_datum keywords.Remark = refl
vertical_datum keywords.Identifier = refl

base_crs : (k : Keyword) → Named kinds.BaseCrs k
base_crs keywords.GeodeticCrs = refl
base_crs keywords.GeographicCrs = refl
base_crs keywords.ProjectedCrs = refl
base_crs keywords.VerticalCrs = refl
base_crs keywords.CompoundCrs = refl
base_crs keywords.BaseGeodeticCrs = refl
base_crs keywords.BaseGeographicCrs = refl
base_crs keywords.Datum = refl
base_crs keywords.VerticalDatum = refl
base_crs keywords.Ensemble = refl
base_crs keywords.Member = refl
base_crs keywords.Method = refl
base_crs keywords.GeoidModel = refl
base_crs keywords.EnsembleAccuracy = refl
base_crs keywords.Ellipsoid = refl
base_crs keywords.PrimeMeridian = refl
base_crs keywords.Conversion = refl
base_crs keywords.Parameter = refl
base_crs keywords.LengthUnit = refl
base_crs keywords.AngleUnit = refl
base_crs keywords.ScaleUnit = refl
base_crs keywords.Unit = refl
base_crs keywords.CoordinateSystem = refl
base_crs keywords.Axis = refl
base_crs keywords.Meridian = refl
base_crs keywords.Order = refl
base_crs keywords.Usage = refl
base_crs keywords.BoundingBox = refl
base_crs keywords.VerticalExtent = refl
base_crs keywords.Scope = refl
base_crs keywords.Area = refl
base_crs keywords.Anchor = refl
base_crs keywords.Citation = refl
base_crs keywords.Uri = refl
base_crs keywords.Remark = refl
base_crs keywords.Identifier = refl

length_unit : (k : Keyword) → Named kinds.LengthUnit k
length_unit keywords.GeodeticCrs = refl
length_unit keywords.GeographicCrs = refl
length_unit keywords.ProjectedCrs = refl
length_unit keywords.VerticalCrs = refl
length_unit keywords.CompoundCrs = refl
length_unit keywords.BaseGeodeticCrs = refl
length_unit keywords.BaseGeographicCrs = refl
length_unit keywords.Datum = refl
length_unit keywords.VerticalDatum = refl
length_unit keywords.Ensemble = refl
length_unit keywords.Member = refl
length_unit keywords.Method = refl
length_unit keywords.GeoidModel = refl
length_unit keywords.EnsembleAccuracy = refl
length_unit keywords.Ellipsoid = refl
length_unit keywords.PrimeMeridian = refl
length_unit keywords.Conversion = refl
length_unit keywords.Parameter = refl
length_unit keywords.LengthUnit = refl
length_unit keywords.AngleUnit = refl
length_unit keywords.ScaleUnit = refl
length_unit keywords.Unit = refl
length_unit keywords.CoordinateSystem = refl
length_unit keywords.Axis = refl
length_unit keywords.Meridian = refl
length_unit keywords.Order = refl
length_unit keywords.Usage = refl
length_unit keywords.BoundingBox = refl
length_unit keywords.VerticalExtent = refl
length_unit keywords.Scope = refl
length_unit keywords.Area = refl
length_unit keywords.Anchor = refl
length_unit keywords.Citation = refl
length_unit keywords.Uri = refl
length_unit keywords.Remark = refl
length_unit keywords.Identifier = refl

angle_unit : (k : Keyword) → Named kinds.AngleUnit k
angle_unit keywords.GeodeticCrs = refl
angle_unit keywords.GeographicCrs = refl
angle_unit keywords.ProjectedCrs = refl
angle_unit keywords.VerticalCrs = refl
angle_unit keywords.CompoundCrs = refl
angle_unit keywords.BaseGeodeticCrs = refl
angle_unit keywords.BaseGeographicCrs = refl
angle_unit keywords.Datum = refl
angle_unit keywords.VerticalDatum = refl
angle_unit keywords.Ensemble = refl
angle_unit keywords.Member = refl
angle_unit keywords.Method = refl
angle_unit keywords.GeoidModel = refl
angle_unit keywords.EnsembleAccuracy = refl
angle_unit keywords.Ellipsoid = refl
angle_unit keywords.PrimeMeridian = refl
angle_unit keywords.Conversion = refl
angle_unit keywords.Parameter = refl
angle_unit keywords.LengthUnit = refl
angle_unit keywords.AngleUnit = refl
angle_unit keywords.ScaleUnit = refl
angle_unit keywords.Unit = refl
angle_unit keywords.CoordinateSystem = refl
angle_unit keywords.Axis = refl
angle_unit keywords.Meridian = refl
angle_unit keywords.Order = refl
angle_unit keywords.Usage = refl
angle_unit keywords.BoundingBox = refl
angle_unit keywords.VerticalExtent = refl
angle_unit keywords.Scope = refl
angle_unit keywords.Area = refl
angle_unit keywords.Anchor = refl
angle_unit keywords.Citation = refl
angle_unit keywords.Uri = refl
angle_unit keywords.Remark = refl
angle_unit keywords.Identifier = refl

any_unit : (k : Keyword) → Named kinds.AnyUnit k
any_unit keywords.GeodeticCrs = refl
any_unit keywords.GeographicCrs = refl
any_unit keywords.ProjectedCrs = refl
any_unit keywords.VerticalCrs = refl
any_unit keywords.CompoundCrs = refl
any_unit keywords.BaseGeodeticCrs = refl
any_unit keywords.BaseGeographicCrs = refl
any_unit keywords.Datum = refl
any_unit keywords.VerticalDatum = refl
any_unit keywords.Ensemble = refl
any_unit keywords.Member = refl
any_unit keywords.Method = refl
any_unit keywords.GeoidModel = refl
any_unit keywords.EnsembleAccuracy = refl
any_unit keywords.Ellipsoid = refl
any_unit keywords.PrimeMeridian = refl
any_unit keywords.Conversion = refl
any_unit keywords.Parameter = refl
any_unit keywords.LengthUnit = refl
any_unit keywords.AngleUnit = refl
any_unit keywords.ScaleUnit = refl
any_unit keywords.Unit = refl
any_unit keywords.CoordinateSystem = refl
any_unit keywords.Axis = refl
any_unit keywords.Meridian = refl
any_unit keywords.Order = refl
any_unit keywords.Usage = refl
any_unit keywords.BoundingBox = refl
any_unit keywords.VerticalExtent = refl
any_unit keywords.Scope = refl
any_unit keywords.Area = refl
any_unit keywords.Anchor = refl
any_unit keywords.Citation = refl
any_unit keywords.Uri = refl
any_unit keywords.Remark = refl
any_unit keywords.Identifier = refl

one_node : (b : Bool) (n : Node) → (b || false) ≡ is_some (if b then Some n else None)
one_node true n = refl
one_node false n = refl

pub named : (t : Takes) (k : Keyword) → list_any (λ own. same_keyword own k) (admitted t) ≡ is_some (enters t k)
named kinds.Text k = refl
named kinds.Number k = refl
named kinds.NumberOrText k = refl
named kinds.Count k = refl
named kinds.CsKind k = refl
named kinds.Direction k = refl
named kinds.SingleCrs k = single_crs k
named kinds.AnyCrs k = any_crs k
named kinds.GeodeticDatum k = geodetic_datum k
named kinds.VerticalDatum k = vertical_datum k
named kinds.BaseCrs k = base_crs k
named kinds.LengthUnit k = length_unit k
named kinds.AngleUnit k = angle_unit k
named kinds.AnyUnit k = any_unit k
named (kinds.Node own n) k = one_node (same_keyword own k) n
