-- The statements of SQL that put entries into PROJ's tables, as a database reads them.
use Rattle.std.specs.Prelude.{◌≡◌, ℕ, ◌++◌, ◌&&◌, List, [], ◌∷◌, codes, Option, Some, None, if◌then◌else◌}
use Rattle.crs_export.specs.SqlStatements.{Part, Text, code}
use Rattle.wkt_grammar.specs.Canon.{canon}
use Rattle.crs_part.specs.declared.crs.CrsParts.{CrsParts}
use Rattle.crs_part.specs.declared.crs.CrsParts.TheVariants as whole
use Rattle.crs_part.specs.declared.crs.Single.{Single}
use Rattle.crs_part.specs.declared.crs.Compound.{Compound}
use Rattle.crs_export.specs.declared.title.Title.{Title}
use Rattle.crs_export.specs.declared.filed.Filed.{Filed}
use Rattle.crs_export.specs.declared.verdict.Verdict.{Verdict}
use Rattle.crs_export.specs.declared.verdict.Verdict.TheVariants.{Insert, Again, LeftOut}
use Rattle.crs_export.specs.declared.table.Table.{Table}
use Rattle.crs_export.specs.declared.table.Table.TheVariants.{Geographic2d, Geographic3d, Geocentric, OtherGeodetic, Projected}
use Rattle.crs_export.specs.Boxes.{numeral}
use Rattle.crs_export.specs.Heights.{HeightBytes, height_in, is_named}
use Rattle.crs_export.specs.Names.{is_long}
use Rattle.crs_export.specs.Rows.{name_in, flat_table, rows_of}
use Rattle.crs_export.specs.Sql.{judged}

abbrev pub Statement : Type 0
Statement = List Part

-- ---- an INSERT

abbrev pub a_text : List ℕ → List Part
a_text bytes = Text bytes ∷ []

-- values after others, and the end of their list
abbrev pub more_values : List (List Part) → Statement
more_values [] = code (codes ")")
more_values (v ∷ vs) = code (codes ",") ++ (v ++ more_values vs)

-- the first value begins the list
abbrev pub insert : List ℕ → List Part → List (List Part) → Statement
insert table first others = code (codes "INSERT INTO ") ++ (code table ++ (code (codes " VALUES(") ++ (first ++ more_values others)))

-- the authority of rows that belong to the rows of one entry
abbrev pub own : List Part
own = a_text (codes "crsreg")

abbrev pub current : List Part
current = code (codes "0")

-- ---- an entry whose table takes its text

abbrev pub geodetic : List ℕ
geodetic = codes "geodetic_crs(auth_name,code,name,type,text_definition,deprecated)"

abbrev pub projected : List ℕ
projected = codes "projected_crs(auth_name,code,name,text_definition,deprecated)"

abbrev pub table_name : Table → List ℕ
table_name Geographic2d = geodetic
table_name Geographic3d = geodetic
table_name Geocentric = geodetic
table_name OtherGeodetic = geodetic
table_name Projected = projected

-- the type, in the table that has one
abbrev pub kinds : Table → List (List Part)
kinds Geographic2d = a_text (codes "geographic 2D") ∷ []
kinds Geographic3d = a_text (codes "geographic 3D") ∷ []
kinds Geocentric = a_text (codes "geocentric") ∷ []
kinds OtherGeodetic = a_text (codes "other") ∷ []
kinds Projected = []

-- a key, a name and a text
abbrev pub insert_text : Table → List Part → List Part → List Part → List ℕ → Statement
insert_text t authority key name text = insert (table_name t) authority (key ∷ name ∷ (kinds t ++ (a_text text ∷ current ∷ [])))

abbrev pub insert_filed : Filed → Table → Statement
insert_filed f t = insert_text t (a_text f.keyed.authority.now) (a_text f.keyed.code.now) (a_text f.name.now) f.keyed.text.now

-- ---- a vertical system: its unit, its coordinate system, its axis and its frame, by the id of the entry, and its own row

abbrev pub insert_unit : List ℕ → HeightBytes → Statement
insert_unit entry h =
    insert (codes "unit_of_measure(auth_name,code,name,type,conv_factor,deprecated)") own
    (a_text entry ∷ a_text h.unit ∷ a_text (codes "length") ∷ code (numeral h.factor) ∷ current ∷ [])

abbrev pub insert_system : List ℕ → Statement
insert_system entry = insert (codes "coordinate_system(auth_name,code,type,dimension)") own (a_text entry ∷ a_text (codes "vertical") ∷ code (codes "1") ∷ [])

abbrev pub insert_axis : List ℕ → HeightBytes → Statement
insert_axis entry h =
    insert (codes "axis(auth_name,code,name,abbrev,orientation,coordinate_system_auth_name,coordinate_system_code,coordinate_system_order,uom_auth_name,uom_code)") own
    (a_text entry ∷ a_text h.axis ∷ a_text h.abbreviation ∷ a_text h.direction ∷ own ∷ a_text entry ∷ code (codes "1") ∷ own ∷ a_text entry ∷ [])

abbrev pub insert_frame : List ℕ → HeightBytes → Statement
insert_frame entry h = insert (codes "vertical_datum(auth_name,code,name,deprecated)") own (a_text entry ∷ a_text h.frame ∷ current ∷ [])

abbrev pub insert_vertical : List ℕ → List ℕ → List ℕ → List ℕ → Statement
insert_vertical authority key entry name =
    insert (codes "vertical_crs(auth_name,code,name,coordinate_system_auth_name,coordinate_system_code,datum_auth_name,datum_code,deprecated)") (a_text authority)
    (a_text key ∷ a_text name ∷ own ∷ a_text entry ∷ own ∷ a_text entry ∷ current ∷ [])

abbrev pub height_statements : List ℕ → List ℕ → List ℕ → HeightBytes → List Statement
height_statements authority key entry h = insert_unit entry h ∷ insert_system entry ∷ insert_axis entry h ∷ insert_frame entry h ∷ insert_vertical authority key entry h.name ∷ []

abbrev pub vertical_statements : Title → Option HeightBytes → List Statement
vertical_statements t None = []
vertical_statements t (Some h) = if is_named h then height_statements t.authority.now t.code.now t.entry.now h else []

-- ---- a compound system: its components by the id of the entry, and its own row

abbrev pub horizontal : List ℕ → List Part
horizontal entry = Text entry ∷ (code (codes "||") ++ a_text (codes " horizontal"))

abbrev pub insert_flat : List ℕ → Table → Single → Statement
insert_flat entry t crs = insert_text t own (horizontal entry) (a_text (name_in crs)) (canon (whole.Single crs))

abbrev pub insert_compound : Title → Statement
insert_compound t =
    insert (codes "compound_crs(auth_name,code,name,horiz_crs_auth_name,horiz_crs_code,vertical_crs_auth_name,vertical_crs_code,deprecated)") (a_text t.authority.now)
    (a_text t.code.now ∷ a_text t.name.now ∷ own ∷ horizontal t.entry.now ∷ own ∷ a_text t.entry.now ∷ current ∷ [])

abbrev pub both_statements : Title → Table → Single → HeightBytes → List Statement
both_statements t table first h = insert_flat t.entry.now table first ∷ (height_statements (codes "crsreg") t.entry.now t.entry.now h ++ insert_compound t ∷ [])

abbrev pub with_height : Title → Table → Single → Option HeightBytes → List Statement
with_height t table first None = []
with_height t table first (Some h) = if is_named h && is_long (name_in first) then both_statements t table first h else []

abbrev pub with_table : Title → Compound → Option Table → List Statement
with_table t c None = []
with_table t c (Some table) = with_height t table c.first (height_in c.second)

-- the statements of a reference system whose table takes no text
abbrev pub row_statements : Title → CrsParts → List Statement
row_statements t (whole.Single crs) = vertical_statements t (height_in crs)
row_statements t (whole.Compound c) = with_table t c (flat_table c.first)

-- ---- entries

-- an entry is inserted by one statement, or by those of its reference system
abbrev pub AreFor : Filed → Option Table → List Statement → Type 0
AreFor f None ss = (t : Title) × (crs : CrsParts) × (f.rows.items ≡ rows_of t crs) × (ss ≡ row_statements t crs)
AreFor f (Some t) ss = ss ≡ insert_filed f t ∷ []

-- only an entry that fits, and whose place no earlier one has, is inserted
abbrev pub AreOf : Filed → Verdict → List Statement → Type 0
AreOf f Insert ss = AreFor f f.table ss
AreOf f Again ss = ss ≡ []
AreOf f LeftOut ss = ss ≡ []

-- the statements of entries after others
abbrev pub AreInserts : List Filed → List Filed → List Statement → Type 0
AreInserts before [] ss = ss ≡ []
AreInserts before (f ∷ fs) ss = (mine : List Statement) × (later : List Statement) × AreOf f (judged before f) mine × AreInserts (before ++ f ∷ []) fs later × (ss ≡ mine ++ later)

-- between `BEGIN` and `COMMIT`
abbrev pub transaction : List Statement → List Statement
transaction ss = code (codes "BEGIN") ∷ (ss ++ code (codes "COMMIT") ∷ [])
