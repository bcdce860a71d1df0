-- What PROJ's tables take of a vertical reference system.
use Rattle.std.specs.Prelude.{ℕ, Bool, ◌&&◌, List, [], codes, Option, Some, None, if◌then◌else◌}
use Rattle.std.specs.Borrow.{Bor}
use Rattle.crs_number.specs.declared.decimals.Decimal.{Decimal}
use Rattle.crs_part.specs.Words.{direction_word}
use Rattle.crs_part.specs.declared.crs.Vertical.{Vertical}
use Rattle.crs_part.specs.declared.crs.Single.{Single}
use Rattle.crs_part.specs.declared.crs.Single.TheVariants as single
use Rattle.crs_part.specs.declared.datums.VerticalFrame.{VerticalFrame}
use Rattle.crs_part.specs.declared.datums.VerticalFrame.TheVariants as frame
use Rattle.crs_part.specs.declared.systems.Axis.{Axis}
use Rattle.crs_part.specs.declared.systems.Direction.{Direction}
use Rattle.crs_part.specs.declared.systems.Direction.TheVariants as to
use Rattle.crs_part.specs.declared.units.Unit.{Unit}
use Rattle.crs_part.specs.declared.units.Unit.TheVariants as any
use Rattle.crs_part.specs.declared.units.UnitDefinition.{UnitDefinition}
use Rattle.crs_export.specs.declared.height.Height.{Height}
use Rattle.crs_export.specs.Names.{is_long}

-- its name, that of its frame, its axis and its unit
pub record HeightBytes : Type 0 where
  pub name : List ℕ
  pub frame : List ℕ
  pub axis : List ℕ
  pub abbreviation : List ℕ
  pub direction : List ℕ
  pub unit : List ℕ
  pub factor : Decimal

abbrev pub height_bytes : Height → HeightBytes
height_bytes h = record { name = h.name.now; frame = h.frame.now; axis = h.axis.now; abbreviation = h.abbreviation.now; direction = h.direction.now; unit = h.unit.now; factor = h.factor }

abbrev pub bytes_of : Option Height → Option HeightBytes
bytes_of None = None
bytes_of (Some h) = Some (height_bytes h)

-- an ensemble has no row
abbrev pub frame_name : VerticalFrame → Option (List ℕ)
frame_name (frame.Datum datum) = Some datum.name.bytes
frame_name (frame.Ensemble ensemble) = None

abbrev pub length_in : Unit → Option UnitDefinition
length_in (any.Length unit) = Some unit
length_in (any.Angle unit) = None
length_in (any.Scale unit) = None
length_in (any.Generic unit) = Some unit

-- the unit of the axis, or else of the system
abbrev pub length_of : Option Unit → Option Unit → Option UnitDefinition
length_of (Some own) whole = length_in own
length_of None (Some whole) = length_in whole
length_of None None = None

-- a letter is the abbreviation of an axis
abbrev pub default_axis : Direction → List ℕ
default_axis to.Down = codes "Depth"
default_axis other = codes "Gravity-related height"

abbrev pub axis_name : Axis → List ℕ
axis_name axis = if is_long axis.name.bytes then axis.name.bytes else default_axis axis.direction

abbrev pub axis_letter : Axis → List ℕ
axis_letter axis = if is_long axis.name.bytes then [] else axis.name.bytes

abbrev pub with_unit : Vertical → List ℕ → Option UnitDefinition → Option HeightBytes
with_unit crs frame None = None
with_unit crs frame (Some unit) = Some (record {
  name = crs.name.bytes;
  frame = frame;
  axis = axis_name crs.axes.first;
  abbreviation = axis_letter crs.axes.first;
  direction = direction_word crs.axes.first.direction;
  unit = unit.name.bytes;
  factor = unit.factor;
})

abbrev pub with_frame : Vertical → Option (List ℕ) → Option HeightBytes
with_frame crs None = None
with_frame crs (Some frame) = with_unit crs frame (length_of crs.axes.first.unit crs.unit)

abbrev pub height_of : Vertical → Option HeightBytes
height_of crs = with_frame crs (frame_name crs.datum)

abbrev pub height_in : Single → Option HeightBytes
height_in (single.Geodetic crs) = None
height_in (single.Projected crs) = None
height_in (single.Vertical crs) = height_of crs

-- PROJ's tables take only names of two characters
abbrev pub is_named : HeightBytes → Bool
is_named h = is_long h.name && (is_long h.frame && is_long h.unit)

abbrev pub name_behind : Option (Bor (List ℕ)) → Option (List ℕ)
name_behind None = None
name_behind (Some name) = Some name.now

abbrev pub unit_behind : Option (Bor UnitDefinition) → Option UnitDefinition
unit_behind None = None
unit_behind (Some unit) = Some unit.now
