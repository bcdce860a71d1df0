-- Rows as rows of PROJ's tables.
use Rattle.std.specs.Prelude.{◌≡◌, ◌∷◌, ◌++◌, [], ℕ, Bool, true, false, not, ◌&&◌, List, Option, codes}
use Rattle.crs_part.specs.Words.{same_word}
use Rattle.crs_part.specs.declared.text.Text.{Text}
use Rattle.crs_value.specs.declared.crs.Crs.{Crs}
use Rattle.wkt_crs.specs.Definition.{IsCrsOf, IsNameIn}
use Rattle.reg_op.specs.Rows.{Row}
use Rattle.reg_op.specs.Text.{printed}
use Rattle.reg_report.specs.Conflicts.{HasKey, KeyBytes}
use Rattle.crs_export.specs.declared.filed.Filed.{Filed}
use Rattle.crs_export.specs.declared.table.Table.{Table}
use Rattle.crs_export.specs.declared.title.Title.{Title}
use Rattle.crs_export.specs.Codes.{IsNumberOf}
use Rattle.crs_export.specs.Rows.{rows_of}
use Rattle.crs_export.specs.Sql.{lines, sql}
use Rattle.crs_export.specs.declared.markup.TheConstants.{SQL_START}
use Rattle.crs_export.specs.Tables.{table_of}
use Rattle.reg_export.specs.Titles.{IsTitle, Each}

-- the table that takes the text of the row's reference system, or the statements for its rows
pub record IsTaken (r : Row) (table : Option Table) (rows : List ℕ) : Type 0 where
  pub title : Title
  pub titled : IsTitle r title
  pub crs : Crs
  pub spelled : IsCrsOf crs r.definition
  pub by_text : table ≡ table_of crs.parts
  pub by_rows : rows ≡ rows_of title crs.parts

-- the id, the key, the name and the text of the row's entry, and what PROJ's tables take of its reference system
pub record IsFiled (r : Row) (f : Filed) : Type 0 where
  pub entry : f.entry.items ≡ printed r.entry
  pub keyed : HasKey r.definition (record { authority = f.keyed.authority.now; code = f.keyed.code.now })
  pub name : Text
  pub is_name : IsNameIn name r.definition
  pub named : f.name.now ≡ name.bytes
  pub text : f.keyed.text.now ≡ r.definition
  pub number : IsNumberOf f.keyed.code.now f.keyed.number
  pub taken : IsTaken r f.table f.rows.items

-- an entry of EPSG, which PROJ has, is passed over unless all are asked for
abbrev pub passes_over : Bool → List ℕ → Bool
passes_over all authority = not all && same_word authority (codes "EPSG")

abbrev pub FilesUnless : Bool → Row → List Filed → Type 0
FilesUnless true r fs = fs ≡ []
FilesUnless false r fs = (f : Filed) × IsFiled r f × (fs ≡ f ∷ [])

abbrev pub FilesAs : Bool → Row → List Filed → Type 0
FilesAs all r fs = (k : KeyBytes) × HasKey r.definition k × FilesUnless (passes_over all k.authority) r fs

-- the statements for some rows
abbrev pub IsSql : Bool → List Row → List ℕ → Type 0
IsSql all rs text = (fs : List Filed) × Each (FilesAs all) rs fs × (text ≡ sql fs)

-- their beginning: so far the statements of some rows stand behind these bytes
abbrev pub BeginsWith : List ℕ → Bool → List Row → List ℕ → Type 0
BeginsWith start all rs text = (fs : List Filed) × Each (FilesAs all) rs fs × (text ≡ start ++ lines [] fs)

abbrev pub BeginsSql : Bool → List Row → List ℕ → Type 0
BeginsSql all rs text = BeginsWith SQL_START.now all rs text
