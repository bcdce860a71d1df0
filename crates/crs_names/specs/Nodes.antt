-- The nodes of a reference system, in the order of its text. Each part comes before those in it, and its identifiers come after these.
use Rattle.std.specs.Prelude.{List, [], ◌∷◌, Option, Some, None}
use Rattle.crs_part.specs.Slots.{items_of}
use Rattle.crs_part.specs.declared.text.Text.{Text}
use Rattle.crs_part.specs.declared.identifiers.Ident.{Ident}
use Rattle.crs_part.specs.declared.identifiers.Named.{Named}
use Rattle.crs_part.specs.declared.units.UnitDefinition.{UnitDefinition}
use Rattle.crs_part.specs.declared.units.LengthUnit.{LengthUnit}
use Rattle.crs_part.specs.declared.units.AngleUnit.{AngleUnit}
use Rattle.crs_part.specs.declared.units.Unit.{Unit}
use Rattle.crs_part.specs.declared.datums.Ellipsoid.{Ellipsoid}
use Rattle.crs_part.specs.declared.datums.PrimeMeridian.{PrimeMeridian}
use Rattle.crs_part.specs.declared.datums.Datum.{Datum}
use Rattle.crs_part.specs.declared.datums.GeodeticEnsemble.{GeodeticEnsemble}
use Rattle.crs_part.specs.declared.datums.GeodeticFrame.{GeodeticFrame}
use Rattle.crs_part.specs.declared.datums.GeodeticFrame.TheVariants as frame
use Rattle.crs_part.specs.declared.datums.VerticalDatum.{VerticalDatum}
use Rattle.crs_part.specs.declared.datums.VerticalEnsemble.{VerticalEnsemble}
use Rattle.crs_part.specs.declared.datums.VerticalFrame.{VerticalFrame}
use Rattle.crs_part.specs.declared.datums.VerticalFrame.TheVariants as vertical_frame
use Rattle.crs_part.specs.declared.systems.Meridian.{Meridian}
use Rattle.crs_part.specs.declared.systems.Axis.{Axis}
use Rattle.crs_part.specs.declared.conversions.Parameter.{Parameter}
use Rattle.crs_part.specs.declared.conversions.Conversion.{Conversion}
use Rattle.crs_part.specs.declared.usages.VerticalExtent.{VerticalExtent}
use Rattle.crs_part.specs.declared.usages.Usage.{Usage}
use Rattle.crs_part.specs.declared.crs.BaseCrs.{BaseCrs}
use Rattle.crs_part.specs.declared.crs.Geodetic.{Geodetic}
use Rattle.crs_part.specs.declared.crs.Projected.{Projected}
use Rattle.crs_part.specs.declared.crs.Vertical.{Vertical}
use Rattle.crs_part.specs.declared.crs.Compound.{Compound}
use Rattle.crs_part.specs.declared.crs.CrsParts.{CrsParts}
use Rattle.crs_part.specs.declared.crs.CrsParts.TheVariants as whole
use Rattle.crs_part.specs.declared.crs.Single.{Single}
use Rattle.crs_part.specs.declared.crs.Single.TheVariants as single
use Rattle.crs_exact.specs.Parts.{unit_of, length_of, angle_of}
use Rattle.crs_names.specs.declared.node.Node.{Node}
use Rattle.crs_names.specs.declared.node.Node.TheVariants as node

-- a part with its name and its identifiers, or a name or an identifier alone
pub data Part : Type 0 where
  OfName : Text → Part
  OfId : Ident → Part
  OfUnit : UnitDefinition → Part
  OfEllipsoid : Ellipsoid → Part
  OfMeridian : PrimeMeridian → Part
  OfDatum : Datum → Part
  OfEnsemble : GeodeticEnsemble → Part
  OfVerticalDatum : VerticalDatum → Part
  OfVerticalEnsemble : VerticalEnsemble → Part
  OfMethod : Named → Part
  OfParameter : Parameter → Part
  OfConversion : Conversion → Part
  OfBase : BaseCrs → Part
  OfGeodetic : Geodetic → Part

abbrev pub part_of : Node → Part
part_of (node.Name x) = OfName x.now
part_of (node.Id x) = OfId x.now
part_of (node.Unit x) = OfUnit x.now
part_of (node.Ellipsoid x) = OfEllipsoid x.now
part_of (node.PrimeMeridian x) = OfMeridian x.now
part_of (node.Datum x) = OfDatum x.now
part_of (node.Ensemble x) = OfEnsemble x.now
part_of (node.VerticalDatum x) = OfVerticalDatum x.now
part_of (node.VerticalEnsemble x) = OfVerticalEnsemble x.now
part_of (node.Method x) = OfMethod x.now
part_of (node.Parameter x) = OfParameter x.now
part_of (node.Conversion x) = OfConversion x.now
part_of (node.Base x) = OfBase x.now
part_of (node.Geodetic x) = OfGeodetic x.now

-- an identifier has no name
abbrev pub name_of : Part → Option Text
name_of (OfName x) = Some x
name_of (OfId x) = None
name_of (OfUnit x) = Some x.name
name_of (OfEllipsoid x) = Some x.name
name_of (OfMeridian x) = Some x.name
name_of (OfDatum x) = Some x.name
name_of (OfEnsemble x) = Some x.name
name_of (OfVerticalDatum x) = Some x.name
name_of (OfVerticalEnsemble x) = Some x.name
name_of (OfMethod x) = Some x.name
name_of (OfParameter x) = Some x.name
name_of (OfConversion x) = Some x.name
name_of (OfBase x) = Some x.name
name_of (OfGeodetic x) = Some x.name

-- ---- the nodes of each value, in front of others

abbrev pub of_maybe : {A : Type 0} → (A → List Part → List Part) → Option A → List Part → List Part
of_maybe f None ps = ps
of_maybe f (Some x) ps = f x ps

abbrev pub of_each : {A : Type 0} → (A → List Part → List Part) → List A → List Part → List Part
of_each f [] ps = ps
of_each f (x ∷ xs) ps = f x (of_each f xs ps)

abbrev pub of_id : Ident → List Part → List Part
of_id x ps = OfId x ∷ ps

abbrev pub of_definition : UnitDefinition → List Part → List Part
of_definition x ps = OfUnit x ∷ of_each of_id x.ids ps

abbrev pub of_length : LengthUnit → List Part → List Part
of_length x ps = of_definition (length_of x) ps

abbrev pub of_angle : AngleUnit → List Part → List Part
of_angle x ps = of_definition (angle_of x) ps

abbrev pub of_any : Unit → List Part → List Part
of_any x ps = of_definition (unit_of x) ps

-- a member or a geoid model
abbrev pub of_named : Named → List Part → List Part
of_named x ps = OfName x.name ∷ of_each of_id x.ids ps

abbrev pub of_ellipsoid : Ellipsoid → List Part → List Part
of_ellipsoid x ps = OfEllipsoid x ∷ of_maybe of_length x.unit (of_each of_id x.ids ps)

abbrev pub of_meridian : PrimeMeridian → List Part → List Part
of_meridian x ps = OfMeridian x ∷ of_maybe of_angle x.unit (of_each of_id x.ids ps)

abbrev pub of_datum : Datum → List Part → List Part
of_datum x ps = OfDatum x ∷ of_ellipsoid x.ellipsoid (of_each of_id x.ids ps)

abbrev pub of_ensemble : GeodeticEnsemble → List Part → List Part
of_ensemble x ps = OfEnsemble x ∷ of_each of_named (items_of x.members) (of_ellipsoid x.ellipsoid (of_each of_id x.ids ps))

abbrev pub of_frame : GeodeticFrame → List Part → List Part
of_frame (frame.Datum x) ps = of_datum x ps
of_frame (frame.Ensemble x) ps = of_ensemble x ps

abbrev pub of_vertical_datum : VerticalDatum → List Part → List Part
of_vertical_datum x ps = OfVerticalDatum x ∷ of_each of_id x.ids ps

abbrev pub of_vertical_ensemble : VerticalEnsemble → List Part → List Part
of_vertical_ensemble x ps = OfVerticalEnsemble x ∷ of_each of_named (items_of x.members) (of_each of_id x.ids ps)

abbrev pub of_vertical_frame : VerticalFrame → List Part → List Part
of_vertical_frame (vertical_frame.Datum x) ps = of_vertical_datum x ps
of_vertical_frame (vertical_frame.Ensemble x) ps = of_vertical_ensemble x ps

abbrev pub of_axis_meridian : Meridian → List Part → List Part
of_axis_meridian x ps = of_angle x.unit ps

abbrev pub of_axis : Axis → List Part → List Part
of_axis x ps = of_maybe of_axis_meridian x.meridian (of_maybe of_any x.unit (of_each of_id x.ids ps))

abbrev pub of_parameter : Parameter → List Part → List Part
of_parameter x ps = OfParameter x ∷ of_maybe of_any x.unit (of_each of_id x.ids ps)

abbrev pub of_conversion : Conversion → List Part → List Part
of_conversion x ps = OfConversion x ∷ OfMethod x.method ∷ of_each of_id x.method.ids (of_each of_parameter x.parameters (of_each of_id x.ids ps))

abbrev pub of_extent : VerticalExtent → List Part → List Part
of_extent x ps = of_maybe of_length x.unit ps

abbrev pub of_usage : Usage → List Part → List Part
of_usage x ps = of_maybe of_extent x.vertical_extent ps

abbrev pub of_base : BaseCrs → List Part → List Part
of_base x ps = OfBase x ∷ of_frame x.datum (of_maybe of_meridian x.prime_meridian (of_maybe of_angle x.unit (of_each of_id x.ids ps)))

-- those of a system without its usages and its own identifiers
abbrev pub of_geodetic : Geodetic → List Part → List Part
of_geodetic x ps =
    OfGeodetic x
    ∷ of_frame x.datum (of_maybe of_meridian x.prime_meridian (of_each of_id x.system.ids (of_each of_axis (items_of x.axes) (of_maybe of_any x.unit ps))))

abbrev pub of_projected : Projected → List Part → List Part
of_projected x ps =
    OfName x.name ∷ of_base x.base (of_conversion x.conversion (of_each of_id x.system.ids (of_each of_axis (items_of x.axes) (of_maybe of_any x.unit ps))))

abbrev pub of_vertical : Vertical → List Part → List Part
of_vertical x ps =
    OfName x.name
    ∷ of_vertical_frame x.datum (of_each of_id x.system.ids (of_each of_axis (items_of x.axes) (of_maybe of_any x.unit (of_each of_named x.geoid_models ps))))

abbrev pub of_single : Single → List Part → List Part
of_single (single.Geodetic x) ps = of_geodetic x ps
of_single (single.Projected x) ps = of_projected x ps
of_single (single.Vertical x) ps = of_vertical x ps

-- those of the parts of both components
abbrev pub of_both : Compound → List Part → List Part
of_both x ps = of_single x.first (of_single x.second ps)

abbrev pub of_parts : CrsParts → List Part → List Part
of_parts (whole.Single x) ps = of_single x ps
of_parts (whole.Compound x) ps = of_both x ps

-- the usages and the identifiers, which come last
abbrev pub of_end : List Usage → List Ident → List Part → List Part
of_end usages ids ps = of_each of_usage usages (of_each of_id ids ps)

-- all of them
abbrev pub all_of_single : Single → List Part → List Part
all_of_single (single.Geodetic x) ps = of_geodetic x (of_end x.usages x.ids ps)
all_of_single (single.Projected x) ps = of_projected x (of_end x.usages x.ids ps)
all_of_single (single.Vertical x) ps = of_vertical x (of_end x.usages x.ids ps)

-- those of a compound without its components
abbrev pub whole_of_compound : Compound → List Part → List Part
whole_of_compound x ps = OfName x.name ∷ of_end x.usages x.ids ps
