-- The rows, and the arguments that fit them.
use Rattle.std.specs.Prelude.{◌≡◌, ℕ, ◌≤◌, List, [], ◌∷◌, ◌++◌, length, Bool, true, false, Option, Some, None, if◌then◌else◌}
use Rattle.std.specs.Option.{is_some}
use Rattle.std.specs.List.{AllPass}
use Rattle.wkt_grammar.specs.declared.table.Edition.{Edition}
use Rattle.wkt_grammar.specs.declared.table.Edition.TheVariants as editions
use Rattle.wkt_grammar.specs.declared.table.Slot.{Slot}
use Rattle.wkt_grammar.specs.declared.table.SlotName.{SlotName}
use Rattle.wkt_grammar.specs.declared.table.Takes.{Takes}
use Rattle.wkt_grammar.specs.declared.table.Takes.TheVariants as kinds
use Rattle.wkt_grammar.specs.declared.table.Argument.{Argument}
use Rattle.wkt_grammar.specs.declared.table.Argument.TheVariants as arguments
use Rattle.wkt_grammar.specs.declared.table.Often.{Often}
use Rattle.wkt_grammar.specs.declared.table.Often.TheVariants.{Once, AtMostOnce, Any, AtLeastOnce}
use Rattle.wkt_grammar.specs.declared.table.Node.{Node}
use Rattle.wkt_grammar.specs.declared.table.Node.TheVariants as nodes
use Rattle.wkt_grammar.specs.declared.table.Keyword.{Keyword}
use Rattle.wkt_grammar.specs.declared.table.Keyword.TheVariants as keywords
use Rattle.wkt_grammar.specs.Words.{same_keyword}
use Rattle.wkt_grammar.specs.declared.rows.TheConstants.{ROOT, GEODETIC_CRS, PROJECTED_CRS, FIRST_VERTICAL_CRS, SECOND_VERTICAL_CRS, COMPOUND_CRS, BASE_CRS, DATUM, VERTICAL_DATUM, GEODETIC_ENSEMBLE, VERTICAL_ENSEMBLE, NAMED, ENSEMBLE_ACCURACY, ELLIPSOID, PRIME_MERIDIAN, CONVERSION, PARAMETER, UNIT, COORDINATE_SYSTEM, AXIS, MERIDIAN, ORDER, FIRST_USAGE, SECOND_USAGE, BOUNDING_BOX, VERTICAL_EXTENT, VALUE, IDENTIFIER}

abbrev pub vertical_crs : Edition → List Slot
vertical_crs editions.First = FIRST_VERTICAL_CRS
vertical_crs editions.Second = SECOND_VERTICAL_CRS

abbrev pub usage : Edition → List Slot
usage editions.First = FIRST_USAGE
usage editions.Second = SECOND_USAGE

-- the slots of a node in an edition
abbrev pub row_of : Edition → Node → List Slot
row_of e nodes.Root = ROOT
row_of e nodes.GeodeticCrs = GEODETIC_CRS
row_of e nodes.ProjectedCrs = PROJECTED_CRS
row_of e nodes.VerticalCrs = vertical_crs e
row_of e nodes.CompoundCrs = COMPOUND_CRS
row_of e nodes.BaseCrs = BASE_CRS
row_of e nodes.Datum = DATUM
row_of e nodes.VerticalDatum = VERTICAL_DATUM
row_of e nodes.GeodeticEnsemble = GEODETIC_ENSEMBLE
row_of e nodes.VerticalEnsemble = VERTICAL_ENSEMBLE
row_of e nodes.Named = NAMED
row_of e nodes.EnsembleAccuracy = ENSEMBLE_ACCURACY
row_of e nodes.Ellipsoid = ELLIPSOID
row_of e nodes.PrimeMeridian = PRIME_MERIDIAN
row_of e nodes.Conversion = CONVERSION
row_of e nodes.Parameter = PARAMETER
row_of e nodes.Unit = UNIT
row_of e nodes.CoordinateSystem = COORDINATE_SYSTEM
row_of e nodes.Axis = AXIS
row_of e nodes.Meridian = MERIDIAN
row_of e nodes.Order = ORDER
row_of e nodes.Usage = usage e
row_of e nodes.BoundingBox = BOUNDING_BOX
row_of e nodes.VerticalExtent = VERTICAL_EXTENT
row_of e nodes.Value = VALUE
row_of e nodes.Identifier = IDENTIFIER

-- the row that a slot of this kind gives to a node with this keyword, if it takes the node
abbrev pub enters : Takes → Keyword → Option Node
enters kinds.Text _ = None
enters kinds.Number _ = None
enters kinds.NumberOrText _ = None
enters kinds.Count _ = None
enters kinds.CsKind _ = None
enters kinds.Direction _ = None
enters kinds.SingleCrs keywords.GeodeticCrs = Some nodes.GeodeticCrs
enters kinds.SingleCrs keywords.GeographicCrs = Some nodes.GeodeticCrs
enters kinds.SingleCrs keywords.ProjectedCrs = Some nodes.ProjectedCrs
enters kinds.SingleCrs keywords.VerticalCrs = Some nodes.VerticalCrs
enters kinds.SingleCrs _ = None
enters kinds.AnyCrs keywords.GeodeticCrs = Some nodes.GeodeticCrs
enters kinds.AnyCrs keywords.GeographicCrs = Some nodes.GeodeticCrs
enters kinds.AnyCrs keywords.ProjectedCrs = Some nodes.ProjectedCrs
enters kinds.AnyCrs keywords.VerticalCrs = Some nodes.VerticalCrs
enters kinds.AnyCrs keywords.CompoundCrs = Some nodes.CompoundCrs
enters kinds.AnyCrs _ = None
enters kinds.GeodeticDatum keywords.Datum = Some nodes.Datum
enters kinds.GeodeticDatum keywords.Ensemble = Some nodes.GeodeticEnsemble
enters kinds.GeodeticDatum _ = None
enters kinds.VerticalDatum keywords.VerticalDatum = Some nodes.VerticalDatum
enters kinds.VerticalDatum keywords.Ensemble = Some nodes.VerticalEnsemble
enters kinds.VerticalDatum _ = None
enters kinds.BaseCrs keywords.BaseGeodeticCrs = Some nodes.BaseCrs
enters kinds.BaseCrs keywords.BaseGeographicCrs = Some nodes.BaseCrs
enters kinds.BaseCrs _ = None
enters kinds.LengthUnit keywords.LengthUnit = Some nodes.Unit
enters kinds.LengthUnit keywords.Unit = Some nodes.Unit
enters kinds.LengthUnit _ = None
enters kinds.AngleUnit keywords.AngleUnit = Some nodes.Unit
enters kinds.AngleUnit keywords.Unit = Some nodes.Unit
enters kinds.AngleUnit _ = None
enters kinds.AnyUnit keywords.LengthUnit = Some nodes.Unit
enters kinds.AnyUnit keywords.AngleUnit = Some nodes.Unit
enters kinds.AnyUnit keywords.ScaleUnit = Some nodes.Unit
enters kinds.AnyUnit keywords.Unit = Some nodes.Unit
enters kinds.AnyUnit _ = None
enters (kinds.Node own node) keyword = if same_keyword own keyword then Some node else None

abbrev pub takes_text : Takes → Bool
takes_text kinds.Text = true
takes_text kinds.NumberOrText = true
takes_text _ = false

abbrev pub takes_number : Takes → Bool
takes_number kinds.Number = true
takes_number kinds.NumberOrText = true
takes_number _ = false

abbrev pub takes_count : Takes → Bool
takes_count kinds.Number = true
takes_count kinds.NumberOrText = true
takes_count kinds.Count = true
takes_count _ = false

abbrev pub takes_cs_kind : Takes → Bool
takes_cs_kind kinds.CsKind = true
takes_cs_kind _ = false

abbrev pub takes_direction : Takes → Bool
takes_direction kinds.Direction = true
takes_direction _ = false

-- whether a slot of this kind takes the argument
abbrev pub takes : Takes → Argument → Bool
takes t arguments.Text = takes_text t
takes t arguments.Number = takes_number t
takes t arguments.Count = takes_count t
takes t arguments.CsKind = takes_cs_kind t
takes t arguments.Direction = takes_direction t
takes t arguments.OtherWord = false
takes t (arguments.Node k) = is_some (enters t k)
takes t arguments.OtherNode = false

-- The row that a node with this keyword has as an argument of this row: the slot that takes it decides.
abbrev pub or_else : Option Node → Option Node → Option Node
or_else (Some n) o = Some n
or_else None o = o

abbrev pub row_in : List Slot → Keyword → Option Node
row_in [] k = None
row_in (s ∷ row) k = or_else (enters s.takes k) (row_in row k)

-- how many arguments a slot takes
abbrev pub Times : Often → ℕ → Type 0
Times Once n = n ≡ 1
Times AtMostOnce n = n ≤ 1
Times Any n = Unit {0}
Times AtLeastOnce n = 1 ≤ n

-- The arguments can be cut, in order, into runs that meet the slots.
abbrev pub Fits : List Slot → List Argument → Type 0
Fits [] args = args ≡ []
Fits (s ∷ row) args = (run : List Argument) × (rest : List Argument) × (args ≡ run ++ rest) × AllPass (takes s.takes) run × Times s.often (length run) × Fits row rest

-- The arguments are a front of some that fit.
pub record Admitted (row : List Slot) (args : List Argument) : Type 0 where
  pub others : List Argument
  pub fit : Fits row (args ++ others)

abbrev pub is_required : Often → Bool
is_required Once = true
is_required AtMostOnce = false
is_required Any = false
is_required AtLeastOnce = true

-- The arguments fit the slots before this one, which is required and has none.
pub record FirstMissing (row : List Slot) (args : List Argument) (name : SlotName) : Type 0 where
  pub before : List Slot
  pub slot : Slot
  pub after : List Slot
  pub parts : row ≡ before ++ slot ∷ after
  pub fit : Fits before args
  pub required : is_required slot.often ≡ true
  pub is : slot.name ≡ name
