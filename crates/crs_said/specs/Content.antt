-- What a part says: names as they are spelled, or folded and without those of units and conversions. Nothing says identifiers,
-- usages, anchors, remarks, names of systems and axes, or the order of axes. A unit is said by its factor, whatever its kind.
use Rattle.std.specs.Prelude.{ℕ, Bool, false, List, ◌++◌, codes}
use Rattle.crs_part.specs.Slots.{items_of, name_of, system_of}
use Rattle.crs_part.specs.Words.{system_word, direction_word}
use Rattle.crs_part.specs.declared.identifiers.Named.{Named}
use Rattle.crs_part.specs.declared.units.UnitDefinition.{UnitDefinition}
use Rattle.crs_part.specs.declared.units.LengthUnit.{LengthUnit}
use Rattle.crs_part.specs.declared.units.AngleUnit.{AngleUnit}
use Rattle.crs_part.specs.declared.units.Unit.{Unit}
use Rattle.crs_part.specs.declared.datums.Ellipsoid.{Ellipsoid}
use Rattle.crs_part.specs.declared.datums.PrimeMeridian.{PrimeMeridian}
use Rattle.crs_part.specs.declared.datums.Datum.{Datum}
use Rattle.crs_part.specs.declared.datums.GeodeticEnsemble.{GeodeticEnsemble}
use Rattle.crs_part.specs.declared.datums.GeodeticFrame.{GeodeticFrame}
use Rattle.crs_part.specs.declared.datums.GeodeticFrame.TheVariants as of_geodetic_frame
use Rattle.crs_part.specs.declared.datums.VerticalDatum.{VerticalDatum}
use Rattle.crs_part.specs.declared.datums.VerticalEnsemble.{VerticalEnsemble}
use Rattle.crs_part.specs.declared.datums.VerticalFrame.{VerticalFrame}
use Rattle.crs_part.specs.declared.datums.VerticalFrame.TheVariants as of_vertical_frame
use Rattle.crs_part.specs.declared.systems.Meridian.{Meridian}
use Rattle.crs_part.specs.declared.systems.Axis.{Axis}
use Rattle.crs_part.specs.declared.systems.CoordSystem.{CoordSystem}
use Rattle.crs_part.specs.declared.conversions.Parameter.{Parameter}
use Rattle.crs_part.specs.declared.conversions.Conversion.{Conversion}
use Rattle.crs_part.specs.declared.crs.GeodeticKind.{GeodeticKind}
use Rattle.crs_part.specs.declared.crs.GeodeticKind.TheVariants as of_kind
use Rattle.crs_part.specs.declared.crs.BaseCrs.{BaseCrs}
use Rattle.crs_part.specs.declared.crs.Geodetic.{Geodetic}
use Rattle.crs_part.specs.declared.crs.Projected.{Projected}
use Rattle.crs_part.specs.declared.crs.Vertical.{Vertical}
use Rattle.crs_part.specs.declared.crs.Single.{Single}
use Rattle.crs_part.specs.declared.crs.Single.TheVariants as of_single
use Rattle.crs_part.specs.declared.crs.Compound.{Compound}
use Rattle.crs_part.specs.declared.crs.CrsParts.{CrsParts}
use Rattle.crs_part.specs.declared.crs.CrsParts.TheVariants as whole
use Rattle.crs_exact.specs.Parts.{unit_of, length_of, angle_of}
use Rattle.crs_said.specs.Fields.{ended, name_field, label_field, number_field, count_field, maybe_field, each_field}

abbrev pub named_said : Bool → Named → List ℕ
named_said exact x = name_field exact x.name.bytes

abbrev pub unit_definition_said : Bool → UnitDefinition → List ℕ
unit_definition_said exact x = label_field exact x.name.bytes ++ number_field x.factor

abbrev pub length_unit_said : Bool → LengthUnit → List ℕ
length_unit_said exact x = unit_definition_said exact (length_of x)

abbrev pub angle_unit_said : Bool → AngleUnit → List ℕ
angle_unit_said exact x = unit_definition_said exact (angle_of x)

abbrev pub unit_said : Bool → Unit → List ℕ
unit_said exact x = unit_definition_said exact (unit_of x)

abbrev pub ellipsoid_said : Bool → Ellipsoid → List ℕ
ellipsoid_said exact x = name_field exact x.name.bytes ++ number_field x.radius ++ number_field x.flattening ++ maybe_field (length_unit_said exact) x.unit

abbrev pub prime_meridian_said : Bool → PrimeMeridian → List ℕ
prime_meridian_said exact x = name_field exact x.name.bytes ++ number_field x.longitude ++ maybe_field (angle_unit_said exact) x.unit

abbrev pub datum_said : Bool → Datum → List ℕ
datum_said exact x = name_field exact x.name.bytes ++ ellipsoid_said exact x.ellipsoid

abbrev pub geodetic_ensemble_said : Bool → GeodeticEnsemble → List ℕ
geodetic_ensemble_said exact x = name_field exact x.name.bytes ++ each_field (named_said exact) (items_of x.members) ++ ellipsoid_said exact x.ellipsoid ++ number_field x.accuracy

abbrev pub geodetic_frame_said : Bool → GeodeticFrame → List ℕ
geodetic_frame_said exact (of_geodetic_frame.Datum x) = ended (codes "DATUM") ++ datum_said exact x
geodetic_frame_said exact (of_geodetic_frame.Ensemble x) = ended (codes "ENSEMBLE") ++ geodetic_ensemble_said exact x

abbrev pub vertical_datum_said : Bool → VerticalDatum → List ℕ
vertical_datum_said exact x = name_field exact x.name.bytes

abbrev pub vertical_ensemble_said : Bool → VerticalEnsemble → List ℕ
vertical_ensemble_said exact x = name_field exact x.name.bytes ++ each_field (named_said exact) (items_of x.members) ++ number_field x.accuracy

abbrev pub vertical_frame_said : Bool → VerticalFrame → List ℕ
vertical_frame_said exact (of_vertical_frame.Datum x) = ended (codes "VDATUM") ++ vertical_datum_said exact x
vertical_frame_said exact (of_vertical_frame.Ensemble x) = ended (codes "ENSEMBLE") ++ vertical_ensemble_said exact x

abbrev pub meridian_said : Bool → Meridian → List ℕ
meridian_said exact x = number_field x.longitude ++ angle_unit_said exact x.unit

abbrev pub axis_said : Bool → Axis → List ℕ
axis_said exact x = ended (direction_word x.direction) ++ maybe_field (meridian_said exact) x.meridian ++ maybe_field (unit_said exact) x.unit

-- the kind of a coordinate system, and how many axes it has
abbrev pub coord_system_said : Bool → CoordSystem → List ℕ
coord_system_said exact x = ended (system_word x.kind) ++ count_field x.dimension

abbrev pub parameter_said : Bool → Parameter → List ℕ
parameter_said exact x = name_field exact x.name.bytes ++ number_field x.value ++ maybe_field (unit_said exact) x.unit

abbrev pub conversion_said : Bool → Conversion → List ℕ
conversion_said exact x = label_field exact x.name.bytes ++ named_said exact x.method ++ each_field (parameter_said exact) x.parameters

abbrev pub kind_word : GeodeticKind → List ℕ
kind_word of_kind.Geodetic = codes "geodetic"
kind_word of_kind.Geographic = codes "geographic"

abbrev pub base_crs_said : Bool → BaseCrs → List ℕ
base_crs_said exact x = ended (kind_word x.kind) ++ geodetic_frame_said exact x.datum ++ maybe_field (prime_meridian_said exact) x.prime_meridian ++ maybe_field (angle_unit_said exact) x.unit

abbrev pub geodetic_said : Bool → Geodetic → List ℕ
geodetic_said exact x = geodetic_frame_said exact x.datum ++ maybe_field (prime_meridian_said exact) x.prime_meridian ++ coord_system_said exact x.system ++ each_field (axis_said exact) (items_of x.axes) ++ maybe_field (unit_said exact) x.unit

abbrev pub projected_said : Bool → Projected → List ℕ
projected_said exact x = base_crs_said exact x.base ++ conversion_said exact x.conversion ++ coord_system_said exact x.system ++ each_field (axis_said exact) (items_of x.axes) ++ maybe_field (unit_said exact) x.unit

abbrev pub vertical_said : Bool → Vertical → List ℕ
vertical_said exact x = vertical_frame_said exact x.datum ++ coord_system_said exact x.system ++ each_field (axis_said exact) (items_of x.axes) ++ maybe_field (unit_said exact) x.unit ++ each_field (named_said exact) x.geoid_models

-- the kind of a system
abbrev pub single_word : Single → List ℕ
single_word (of_single.Geodetic x) = kind_word x.kind
single_word (of_single.Projected x) = codes "projected"
single_word (of_single.Vertical x) = codes "vertical"

abbrev pub slots_said : Bool → Single → List ℕ
slots_said exact (of_single.Geodetic x) = geodetic_said exact x
slots_said exact (of_single.Projected x) = projected_said exact x
slots_said exact (of_single.Vertical x) = vertical_said exact x

abbrev pub single_said : Bool → Single → List ℕ
single_said exact x = ended (single_word x) ++ slots_said exact x

abbrev pub compound_said : Bool → Compound → List ℕ
compound_said exact x = ended (codes "compound") ++ single_said exact x.first ++ single_said exact x.second

-- all that a system says, but for names of systems, conversions, units and axes
abbrev pub without_names : CrsParts → List ℕ
without_names (whole.Single x) = single_said false x
without_names (whole.Compound x) = compound_said false x

abbrev pub single_kind : Single → List ℕ
single_kind x = ended (single_word x) ++ coord_system_said false (system_of x)

-- the kind of a system, the kind of its coordinate system, and how many axes it has
abbrev pub kind_said : CrsParts → List ℕ
kind_said (whole.Single x) = single_kind x
kind_said (whole.Compound x) = ended (codes "compound")

-- the same behind its name, folded; names mostly differ, so that a comparison ends soon
abbrev pub kind_and_name : CrsParts → List ℕ
kind_and_name crs = name_field false (name_of crs).bytes ++ kind_said crs
