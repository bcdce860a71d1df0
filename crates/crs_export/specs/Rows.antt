-- Statements that put vertical and compound reference systems into PROJ's tables.
use Rattle.std.specs.Prelude.{ℕ, ◌++◌, ◌&&◌, List, [], Option, Some, None, if◌then◌else◌}
use Rattle.wkt_grammar.specs.Canon.{canon}
use Rattle.crs_part.specs.declared.crs.CrsParts.{CrsParts}
use Rattle.crs_part.specs.declared.crs.CrsParts.TheVariants as whole
use Rattle.crs_part.specs.declared.crs.Single.{Single}
use Rattle.crs_part.specs.declared.crs.Single.TheVariants as single
use Rattle.crs_part.specs.declared.crs.Compound.{Compound}
use Rattle.crs_export.specs.SqlQuotes.{quoted}
use Rattle.crs_export.specs.declared.title.Title.{Title}
use Rattle.crs_export.specs.declared.table.Table.{Table}
use Rattle.crs_export.specs.declared.table.Table.TheVariants.{Geographic2d, Geographic3d, Geocentric, OtherGeodetic, Projected}
use Rattle.crs_export.specs.declared.markup.TheConstants.{GEODETIC, PROJECTED, GEOGRAPHIC_2D, GEOGRAPHIC_3D, GEOCENTRIC, OTHER, COMMA, ROW_END, OWNER, UNIT, LENGTH, SYSTEM, SYSTEM_END, AXIS, OF_OWNER, FIRST_OF_OWNER, KEY_END, FRAME, VERTICAL, COMPOUND, BY_OWNER, HORIZONTAL, HORIZONTAL_AND_OWNER}
use Rattle.crs_export.specs.Boxes.{numeral}
use Rattle.crs_export.specs.Heights.{HeightBytes, height_in, is_named}
use Rattle.crs_export.specs.Names.{is_long}
use Rattle.crs_export.specs.Tables.{system_table}

abbrev pub field : List ℕ → List ℕ → List ℕ
field before value = before ++ quoted value

-- ---- a table that takes a text

abbrev pub start_of : Table → List ℕ
start_of Geographic2d = GEODETIC.now
start_of Geographic3d = GEODETIC.now
start_of Geocentric = GEODETIC.now
start_of OtherGeodetic = GEODETIC.now
start_of Projected = PROJECTED.now

abbrev pub type_of : Table → List ℕ
type_of Geographic2d = GEOGRAPHIC_2D.now
type_of Geographic3d = GEOGRAPHIC_3D.now
type_of Geocentric = GEOCENTRIC.now
type_of OtherGeodetic = OTHER.now
type_of Projected = COMMA.now

-- ---- a vertical system: rows for its unit, its coordinate system, its axis and its frame, by the id of the entry, and its own row

abbrev pub unit_row : List ℕ → HeightBytes → List ℕ
unit_row entry h = field UNIT.now entry ++ field COMMA.now h.unit ++ LENGTH.now ++ numeral h.factor ++ ROW_END.now

abbrev pub system_row : List ℕ → List ℕ
system_row entry = field SYSTEM.now entry ++ SYSTEM_END.now

-- two references to rows of the entry
abbrev pub owner_end : List ℕ → List ℕ → List ℕ → List ℕ
owner_end entry between end = field OF_OWNER.now entry ++ field between entry ++ end

abbrev pub axis_row : List ℕ → HeightBytes → List ℕ
axis_row entry h =
    field AXIS.now entry ++ field COMMA.now h.axis ++ field COMMA.now h.abbreviation ++ field COMMA.now h.direction ++ owner_end entry FIRST_OF_OWNER.now KEY_END.now

abbrev pub frame_row : List ℕ → HeightBytes → List ℕ
frame_row entry h = field FRAME.now entry ++ field COMMA.now h.frame ++ ROW_END.now

abbrev pub vertical_row : List ℕ → List ℕ → List ℕ → List ℕ → List ℕ
vertical_row authority code entry name =
    field VERTICAL.now authority ++ field COMMA.now code ++ field COMMA.now name ++ owner_end entry OF_OWNER.now ROW_END.now

abbrev pub height_rows : List ℕ → List ℕ → List ℕ → HeightBytes → List ℕ
height_rows authority code entry h =
    unit_row entry h ++ system_row entry ++ axis_row entry h ++ frame_row entry h ++ vertical_row authority code entry h.name

abbrev pub vertical_rows : Title → Option HeightBytes → List ℕ
vertical_rows t None = []
vertical_rows t (Some h) = if is_named h then height_rows t.authority.now t.code.now t.entry.now h else []

-- ---- a compound system: rows for its components, by the id of the entry, and its own row

abbrev pub name_in : Single → List ℕ
name_in (single.Geodetic crs) = crs.name.bytes
name_in (single.Projected crs) = crs.name.bytes
name_in (single.Vertical crs) = crs.name.bytes

abbrev pub if_flat : Table → Option Table
if_flat Geographic2d = Some Geographic2d
if_flat Geographic3d = None
if_flat Geocentric = None
if_flat OtherGeodetic = None
if_flat Projected = Some Projected

-- PROJ takes geographic systems of two axes, and projected ones
abbrev pub flat_table : Single → Option Table
flat_table (single.Geodetic crs) = if_flat (system_table crs.system.kind crs.system.dimension)
flat_table (single.Projected crs) = Some Projected
flat_table (single.Vertical crs) = None

abbrev pub flat_between : List ℕ → List ℕ → List ℕ → List ℕ → List ℕ → List ℕ
flat_between start entry name type text = start ++ field BY_OWNER.now entry ++ field HORIZONTAL.now name ++ field type text ++ ROW_END.now

abbrev pub flat_row : List ℕ → Table → Single → List ℕ
flat_row entry t crs = flat_between (start_of t) entry (name_in crs) (type_of t) (canon (whole.Single crs))

abbrev pub compound_row : Title → List ℕ
compound_row t =
    field COMPOUND.now t.authority.now ++ field COMMA.now t.code.now ++ field COMMA.now t.name.now
    ++ owner_end t.entry.now HORIZONTAL_AND_OWNER.now ROW_END.now

abbrev pub both_rows : Title → Table → Single → HeightBytes → List ℕ
both_rows t table first h = flat_row t.entry.now table first ++ height_rows OWNER.now t.entry.now t.entry.now h ++ compound_row t

abbrev pub with_height : Title → Table → Single → Option HeightBytes → List ℕ
with_height t table first None = []
with_height t table first (Some h) = if is_named h && is_long (name_in first) then both_rows t table first h else []

abbrev pub with_table : Title → Compound → Option Table → List ℕ
with_table t c None = []
with_table t c (Some table) = with_height t table c.first (height_in c.second)

-- ---- the statements of an entry whose table takes no text; none if PROJ's tables cannot hold it

abbrev pub rows_of : Title → CrsParts → List ℕ
rows_of t (whole.Single crs) = vertical_rows t (height_in crs)
rows_of t (whole.Compound c) = with_table t c (flat_table c.first)
