-- The names of the slots of each row, by computation.
use Rattle.std.proofs.Common.{◌≡◌, refl}
use Rattle.std.specs.Prelude.{map}
use Rattle.wkt_grammar.specs.declared.table.Edition.{Edition}
use Rattle.wkt_grammar.specs.declared.table.Edition.TheVariants as editions
use Rattle.wkt_grammar.specs.declared.table.Node.{Node}
use Rattle.wkt_grammar.specs.declared.table.Node.TheVariants as nodes
use Rattle.wkt_grammar.specs.declared.table.Slot.{Slot}
use Rattle.wkt_grammar.specs.Names.{slot_name}
use Rattle.wkt_grammar.specs.Rows.{row_of, vertical_crs, usage}
use Rattle.wkt_grammar.specs.RowNames.{names_in, vertical_names, usage_names}

vertical : (e : Edition) → map (λ (s : Slot). slot_name s.name) (vertical_crs e) ≡ vertical_names e
vertical editions.First = refl
vertical editions.Second = refl

used : (e : Edition) → map (λ (s : Slot). slot_name s.name) (usage e) ≡ usage_names e
used editions.First = refl
used editions.Second = refl

pub are_named : (e : Edition) (n : Node) → map (λ (s : Slot). slot_name s.name) (row_of e n) ≡ names_in e n
are_named e nodes.Root = refl
are_named e nodes.GeodeticCrs = refl
are_named e nodes.ProjectedCrs = refl
are_named e nodes.VerticalCrs = vertical e
are_named e nodes.CompoundCrs = refl
are_named e nodes.BaseCrs = refl
are_named e nodes.Datum = refl
are_named e nodes.VerticalDatum = refl
are_named e nodes.GeodeticEnsemble = refl
are_named e nodes.VerticalEnsemble = refl
are_named e nodes.Named = refl
are_named e nodes.EnsembleAccuracy = refl
are_named e nodes.Ellipsoid = refl
are_named e nodes.PrimeMeridian = refl
are_named e nodes.Conversion = refl
are_named e nodes.Parameter = refl
are_named e nodes.Unit = refl
are_named e nodes.CoordinateSystem = refl
are_named e nodes.Axis = refl
are_named e nodes.Meridian = refl
are_named e nodes.Order = refl
are_named e nodes.Usage = used e
are_named e nodes.BoundingBox = refl
are_named e nodes.VerticalExtent = refl
are_named e nodes.Value = refl
are_named e nodes.Identifier = refl
