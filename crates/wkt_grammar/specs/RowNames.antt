-- The names of the slots of each row, in order.
use Rattle.std.specs.Prelude.{ℕ, List, [], ◌∷◌, codes}
use Rattle.wkt_grammar.specs.declared.table.Edition.{Edition}
use Rattle.wkt_grammar.specs.declared.table.Edition.TheVariants as editions
use Rattle.wkt_grammar.specs.declared.table.Node.{Node}
use Rattle.wkt_grammar.specs.declared.table.Node.TheVariants as nodes

abbrev pub vertical_names : Edition → List (List ℕ)
vertical_names editions.First = codes "name" ∷ codes "datum" ∷ codes "cs" ∷ codes "axis" ∷ codes "unit" ∷ codes "usage" ∷ codes "id" ∷ codes "remark" ∷ []
vertical_names editions.Second = codes "name" ∷ codes "datum" ∷ codes "cs" ∷ codes "axis" ∷ codes "unit" ∷ codes "geoidmodel" ∷ codes "usage" ∷ codes "id" ∷ codes "remark" ∷ []

abbrev pub usage_names : Edition → List (List ℕ)
usage_names editions.First = codes "scope" ∷ codes "area" ∷ codes "bbox" ∷ []
usage_names editions.Second = codes "scope" ∷ codes "area" ∷ codes "bbox" ∷ codes "verticalextent" ∷ []

abbrev pub names_in : Edition → Node → List (List ℕ)
names_in e nodes.Root = codes "root" ∷ []
names_in e nodes.GeodeticCrs = codes "name" ∷ codes "datum" ∷ codes "primem" ∷ codes "cs" ∷ codes "axis" ∷ codes "unit" ∷ codes "usage" ∷ codes "id" ∷ codes "remark" ∷ []
names_in e nodes.ProjectedCrs = codes "name" ∷ codes "base" ∷ codes "conversion" ∷ codes "cs" ∷ codes "axis" ∷ codes "unit" ∷ codes "usage" ∷ codes "id" ∷ codes "remark" ∷ []
names_in e nodes.VerticalCrs = vertical_names e
names_in e nodes.CompoundCrs = codes "name" ∷ codes "first" ∷ codes "second" ∷ codes "usage" ∷ codes "id" ∷ codes "remark" ∷ []
names_in e nodes.BaseCrs = codes "name" ∷ codes "datum" ∷ codes "primem" ∷ codes "unit" ∷ codes "id" ∷ []
names_in e nodes.Datum = codes "name" ∷ codes "ellipsoid" ∷ codes "anchor" ∷ codes "id" ∷ []
names_in e nodes.VerticalDatum = codes "name" ∷ codes "anchor" ∷ codes "id" ∷ []
names_in e nodes.GeodeticEnsemble = codes "name" ∷ codes "member" ∷ codes "ellipsoid" ∷ codes "accuracy" ∷ codes "id" ∷ []
names_in e nodes.VerticalEnsemble = codes "name" ∷ codes "member" ∷ codes "accuracy" ∷ codes "id" ∷ []
names_in e nodes.Named = codes "name" ∷ codes "id" ∷ []
names_in e nodes.EnsembleAccuracy = codes "value" ∷ []
names_in e nodes.Ellipsoid = codes "name" ∷ codes "radius" ∷ codes "flattening" ∷ codes "unit" ∷ codes "id" ∷ []
names_in e nodes.PrimeMeridian = codes "name" ∷ codes "longitude" ∷ codes "unit" ∷ codes "id" ∷ []
names_in e nodes.Conversion = codes "name" ∷ codes "method" ∷ codes "parameter" ∷ codes "id" ∷ []
names_in e nodes.Parameter = codes "name" ∷ codes "value" ∷ codes "unit" ∷ codes "id" ∷ []
names_in e nodes.Unit = codes "name" ∷ codes "factor" ∷ codes "id" ∷ []
names_in e nodes.CoordinateSystem = codes "kind" ∷ codes "dimension" ∷ codes "id" ∷ []
names_in e nodes.Axis = codes "name" ∷ codes "direction" ∷ codes "meridian" ∷ codes "order" ∷ codes "unit" ∷ codes "id" ∷ []
names_in e nodes.Meridian = codes "longitude" ∷ codes "unit" ∷ []
names_in e nodes.Order = codes "position" ∷ []
names_in e nodes.Usage = usage_names e
names_in e nodes.BoundingBox = codes "south" ∷ codes "west" ∷ codes "north" ∷ codes "east" ∷ []
names_in e nodes.VerticalExtent = codes "low" ∷ codes "high" ∷ codes "unit" ∷ []
names_in e nodes.Value = codes "value" ∷ []
names_in e nodes.Identifier = codes "authority" ∷ codes "code" ∷ codes "version" ∷ codes "citation" ∷ codes "uri" ∷ []
